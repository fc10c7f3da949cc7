-- `program_status::ends_in` meets its contract. Assumes nothing.
use mathlib.Core.Path.{◌≡◌, sym, ◌∙◌, ap}
use mathlib.Core.Bool.{false≢true}
use native.Mathlib.Omega.{arith}
use Prim.Native.Nat.{ℕ, ◌-◌}
use mathlib.Core.List.{List}
use lib.ListN.{length, take, drop, length-drop}
use lib.Seq.{take_all}
use Rattle.std.proofs.lemmas.Slice.Eq.{slice_eq-Decides}
use Rattle.std.proofs.lemmas.Bool.Decides.{Decides-eqb}
use Rattle.program_status.proofs.ends_in.Goals as goal

whole : (n : ℕ) (l : List ℕ) → take (length l - n) (drop n l) ≡ drop n l
whole n l = take_all (length l - n) (drop n l) (simp length-drop (omega arith))

pub returns-then-text-end : goal.returns-then-text-end
returns-then-text-end c =
    let given = c.args in (
      λ e. absurd (false≢true e),
      λ e. absurd (omega (
        arith,
        ap length e,
        length-drop (length given.text.now - length given.end.now)
            given.text.now,
      )),
    )

pub returns : goal.returns
returns c =
    let given = c.args in
    let all = whole (length given.text.now - length given.end.now) given.text.now in
    let same = slice_eq-Decides Decides-eqb _ _ _ c.eq.ensures in
    (λ e. sym all ∙ same.0 e, λ e. same.1 (all ∙ e))
