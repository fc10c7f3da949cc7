-- Whether a result is no refusal, by the refusal's number. Assumes nothing.
use mathlib.Core.Path.{◌≡◌, refl, sym}
use borrow.Author.Tests.{ne_eqb}
use lib.Dec.{eqb}
use Rattle.std.specs.Prelude.{Result, Ok, Err, is_ok}
use Rattle.standard_refusal.specs.Number.{number_of, code_of}
use Rattle.standard_refusal.specs.declared.Refusal.{Refusal}
use Rattle.standard_refusal.proofs.Numbers.{not_0}

pub judged_by_number : {A : Type 0} (judged : Result A Refusal) → is_ok judged ≡ eqb (code_of judged) 0
judged_by_number (Ok x) = refl
judged_by_number (Err refusal) = sym (ne_eqb (number_of refusal) 0 (not_0 refusal))
