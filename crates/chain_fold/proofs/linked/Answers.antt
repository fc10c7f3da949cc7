-- `chain_fold::linked` meets its contract. Assumes nothing.
use mathlib.Core.Path.{ap, ap₂, ◌∙◌}
use mathlib.Core.List.{List, ◌++◌, map}
use Prim.Native.Nat.{ℕ, ◌%◌}
use lib.ListN.{get_or}
use borrow.Author.Rules.{rules}
use Rattle.chain_fold.proofs.linked.Goals as goal

pub returns : goal.returns
returns c = record {
  value = c.picked.ensures
      ∙ ap₂ (λ (t is : List ℕ). map (λ i. get_or t (i % 32) 0) is)
      (c.beside.ensures ∙ ap (λ (p : List ℕ). c.args.current ++ p)
      c.partner_of.ensures) c.indices_of.ensures;
  link_len = search rules;
}
