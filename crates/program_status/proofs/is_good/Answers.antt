-- `program_status::is_good` meets its contract. Assumes nothing.
use mathlib.Core.Path.{◌≡◌, refl, sym, ◌∙◌}
use mathlib.Core.Bool.{true, true≢false}
use mathlib.Core.Logic.{inl, inr}
use Rattle.program_digits.specs.Codes.{codes}
use Rattle.program_status.specs.Status.{Good}
use Rattle.program_status.proofs.is_good.Goals as goal

pub returns-then-ends_in : goal.returns-then-ends_in
unfolding codes
returns-then-ends_in c = (λ e. inl (c.ends_in.ensures.0 c.if-ends_in.true), λ e. refl)

pub returns : goal.returns
unfolding codes
returns c = (λ e. inr (c.ends_in-2.ensures.0 e), by)
  where
    by : Good c.args.text.now → c.ends_in-2.result ≡ true
    by (inl e) = absurd (true≢false (sym (c.ends_in.ensures.1 e) ∙ c.if-ends_in.false))
    by (inr e) = c.ends_in-2.ensures.1 e
