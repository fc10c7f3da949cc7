-- The loop over the links of a chain over vectors.
-- Assumes nothing.
use mathlib.Core.Path.{◌≡◌, refl, sym, ap, ap₂, ◌∙◌}
use mathlib.Core.Bool.{Bool, true, cond}
use mathlib.Core.List.{List}
use Prim.Native.Nat.{ℕ, zero, suc, ◌+◌, ◌<◌, ◌≤◌}
use native.Mathlib.Omega.{arith}
use lib.ListN.{length, get_or, drop, drop_of_length-le}
use Rattle.standard.specs.Refusal.{Answer, given, refused, legal, at_indices}
use Rattle.standard.specs.Vector.{shuffle}
use Rattle.chain.specs.Definition.{indices, partner, chained, all_legal, refusal, answered, applied}
use Rattle.chain.proofs.Judging.{one_more, link_legal}

-- what is left of the chain, from the current vector
module _ (links : List (List ℕ)) (a b : ℕ) where
  pub one_link : (k current next : ℕ) (d : List ℕ) → k < length links → all_legal links ≡ true
      → (legal (indices (get_or links k d)) ≡ true → next ≡ shuffle (indices (get_or links k d)) current (partner (get_or (get_or links k d) 0 0) a b current))
      → chained (drop (k + 1) links) a b next ≡ chained (drop k links) a b current
  unfolding chained
  one_link k current next d h e does =
      ap (chained (drop (k + 1) links) a b) (does (link_legal links k d h e))
      ∙ ap (λ (rest : List (List ℕ)). chained rest a b current) (sym (one_more d links k h))

  pub all_links : (k current : ℕ) → length links ≤ k → refusal links ≡ 0 → chained (drop k links) a b current ≡ chained links a b a → given current
      ≡ applied links a b
  unfolding chained
  all_links k current over unrefused e =
      ap given (ap (λ (rest : List (List ℕ)). chained rest a b current) (sym (drop_of_length-le links over)) ∙ e)
      ∙ ap (λ (n : ℕ). answered n (chained links a b a)) (sym unrefused)
