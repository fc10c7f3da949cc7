-- `capture_scanning::end` meets its contract. Assumes nothing.
use mathlib.Core.Path.{◌≡◌, sym, ap, ◌∙◌}
use Rattle.std.specs.Prelude.{Result, Ok, Err}
use Rattle.std.specs.Result.{IsErrAnd}
use Rattle.standard_refusal.specs.declared.Refusal.{Refusal}
use Rattle.standard_refusal.specs.Number.{number_of, code_of}
use Rattle.standard_refusal.proofs.Numbers.{not_0}
use Rattle.capture_meetings.proofs.Theorems.{ends_barred, ends_open}
use Rattle.capture_scanning.proofs.end.Goals as goal

told : {A : Type 0} (r : Result A Refusal) (e : Refusal) → IsErrAnd r (λ x. x ≡ e) → code_of r ≡ number_of e
told (Ok x) e h = absurd h
told (Err x) e h = ap number_of h

pub returns-in_err-barred : goal.returns-in_err-barred
returns-in_err-barred c = λ m X window s e.
    let why = c.in_err-barred.field-0.0 in
    told c.from_residual.result why c.from_residual.ensures.1 ∙ ends_barred _ _ _ _ c.in_err-barred.ensures (not_0 why)

pub returns-then-is_short : goal.returns-then-is_short
returns-then-is_short c = λ m X window s e.
    let short = sym (c.is_short.ensures X window s) ∙ c.if-is_short.true in
    sym (ends_open _ m _ _ (sym c.in_ok-barred.ensures) ∙ rw short)

pub returns-then-met : goal.returns-then-met
returns-then-met c = λ m X window s e.
    let long = sym (c.is_short.ensures X window s) ∙ c.if-is_short.false in
    sym (ends_open _ m _ _ (sym c.in_ok-barred.ensures) ∙ rw (long, ← e, c.if-met.true))

pub returns-else-met : goal.returns-else-met
returns-else-met c = λ m X window s e.
    let long = sym (c.is_short.ensures X window s) ∙ c.if-is_short.false in
    sym (ends_open _ m _ _ (sym c.in_ok-barred.ensures) ∙ rw (long, ← e, c.if-met.false))
