-- `finder::find` meets its contract. Assumes nothing.
use mathlib.Core.Path.{◌≡◌, refl, sym, ap, ◌∙◌}
use native.Mathlib.Omega.{arith}
use Rattle.std.specs.Prelude.{Option, Some, None, Result, Ok, Err}
use Rattle.std.specs.Result.{IsErrAnd}
use Rattle.std.specs.Option.{ok_or}
use Rattle.standard_refusal.specs.declared.Refusal.{Refusal}
use Rattle.standard_refusal.specs.Number.{number_of}
use Rattle.standard_refusal.proofs.Numbers.{not_0}
use Rattle.finder_windows.specs.Definition.{refused}
use Rattle.finder_windows.specs.declared.Found.{Found}
use Rattle.finder_windows.specs.Answer.{answer_of, met_or_none}
use Rattle.finder_windows.proofs.Bits.{length_bits}
use Rattle.finder_windows.proofs.Refusals.{admitted, find_refused, find_searched}
use Rattle.finder.proofs.find.Goals as goal

told : (r : Result Found Refusal) (e : Refusal) → IsErrAnd r (λ x. x ≡ e) → answer_of r ≡ refused (number_of e)
told (Ok f) e h = absurd h
told (Err x) e h = ap (λ (z : Refusal). refused (number_of z)) h

pub returns-in_err-refusal : goal.returns-in_err-refusal
returns-in_err-refusal c =
    let given = c.args in
    let why = c.in_err-refusal.field-0.0 in
    told c.from_residual.result why c.from_residual.ensures.1
    ∙ find_refused given.buffer.now given.marker given.tolerance given.length c.in_err-refusal.ensures (not_0 why)

pub invariant_of-search : goal.invariant_of-search
invariant_of-search c =
    let given = c.args in
    let fit = admitted given.buffer.now given.tolerance given.length (sym c.in_ok-refusal.ensures) in
    record { long = fit.shortest; short = omega (arith, fit.size) }

pub all-requires : goal.all-requires
all-requires c =
    let given = c.args in
    let fit = admitted given.buffer.now given.tolerance given.length (sym c.in_ok-refusal.ensures) in
    omega (arith, fit.room, length_bits given.buffer.now)

-- what is found, or 11
or_eleven : (o : Option Found) → answer_of (ok_or o Refusal.Nowhere) ≡ met_or_none o
or_eleven (Some f) = refl
or_eleven None = refl

pub returns : goal.returns
returns c =
    let given = c.args in
    ap answer_of c.ok_or.ensures.value ∙ or_eleven c.all.result ∙ rw (← length_bits given.buffer.now) at c.all.ensures
    ∙ sym (find_searched given.buffer.now given.marker given.tolerance given.length (sym c.in_ok-refusal.ensures))
