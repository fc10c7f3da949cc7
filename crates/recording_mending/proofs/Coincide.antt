-- Any two answers that a promise allows coincide. Assumes nothing.
use Rattle.std.proofs.Common.{◌≡◌, refl, sym, ap, arith, ℕ, ◌<◌, List, [], ◌∷◌, map}
use Rattle.std.specs.Prelude.{Option, Some, None, Result, Ok, Err}
use Rattle.std.proofs.Math.Path.{PathP, to_path_p}
use Rattle.std.proofs.Math.Bridge.{le_prop}
use Rattle.standard_refusal.specs.declared.Refusal.{Refusal}
use Rattle.standard_refusal.specs.Number as refusal
use Rattle.standard_refusal.proofs.Numbers.{not_0, same_number}
use Rattle.recording_mending_rules.specs.Definition as definition
use Rattle.recording_mending_place.specs.declared.bit.Bit.{Bit}
use Rattle.recording_mending_place.specs.Mended.{number_of}
use Rattle.recording_mending.specs.declared.Mending.{Mending}
use Rattle.recording_mending.specs.Mended.{mending_of}

same_bit : (a b : Bit) → a.number ≡ b.number → a ≡ b
same_bit a b e =
    let p : PathP (λ j. e j < 4096) a.in_block b.in_block = to_path_p (λ j. e j < 4096) (le_prop _ b.in_block) in
    λ i. record { number = e i; in_block = p i }

same_bits : (a b : Option Bit) → number_of a ≡ number_of b → a ≡ b
same_bits None None e = refl
same_bits None (Some y) e = absurd (let h = y.in_block in omega arith)
same_bits (Some x) None e = absurd (let h = x.in_block in omega arith)
same_bits (Some x) (Some y) e = ap Some (same_bit x y e)

same_lists : (a b : List (Option Bit)) → map number_of a ≡ map number_of b → a ≡ b
same_lists [] [] e = refl
same_lists [] (y ∷ ys) e = absurd (let z : ◌≡◌ {A = ℕ} 0 1 = cc in omega arith)
same_lists (x ∷ xs) [] e = absurd (let z : ◌≡◌ {A = ℕ} 0 1 = cc in omega arith)
same_lists (x ∷ xs) (y ∷ ys) e =
    let h : number_of x ≡ number_of y = cc in
    let t : map number_of xs ≡ map number_of ys = cc in
    let p = same_bits x y h in
    let q = same_lists xs ys t in cc

pub mendings_coincide : (a b : Result Mending Refusal) → mending_of a ≡ mending_of b → a ≡ b
mendings_coincide (Ok m) (Ok n) e =
    let w = ap (λ (x : definition.Mending). x.blocks) e in
    let s = ap (λ (x : definition.Mending). x.stopped) e in
    let b = same_lists m.bits n.bits (ap (λ (x : definition.Mending). x.bits) e) in
    ap Ok (λ i. record { written = w i; stopped = s i; bits = b i })
mendings_coincide (Err r) (Err s) e = ap Err (same_number r s (ap (λ (x : definition.Mending). x.refusal) e))
mendings_coincide (Ok m) (Err r) e = absurd (not_0 r (sym (ap (λ (x : definition.Mending). x.refusal) e)))
mendings_coincide (Err r) (Ok m) e = absurd (not_0 r (ap (λ (x : definition.Mending). x.refusal) e))
