-- The lines of the listing, one after the other, and how long they are at most. Assumes nothing.
use mathlib.Core.Path.{◌≡◌, refl, sym, ap, ◌∙◌}
use mathlib.Core.Bool.{Bool, true, false, cond, ◌&&◌}
use mathlib.Core.List.{List, [], ◌∷◌, ◌++◌, append-nil}
use Prim.Native.Nat.{ℕ, suc, ◌+◌, ◌*◌, ◌/◌, ◌%◌, ◌^◌, ◌≤◌, ◌<◌}
use native.Mathlib.Numerals.{add-one}
use native.Mathlib.Omega.{arith}
use lib.Dec.{eqb}
use lib.ListN.{length, get_or, drop, length-append, drop_of_length-le}
use lib.Seq.{drop-cons}
use borrow.Author.Tests.{eq-eqb, ne_eqb, eqb-true, eqb-false}
use Rattle.standard.specs.Instruction.{Kind, i32, i64, f32, f64}
use Rattle.standard.specs.Lanes
use Rattle.standard.proofs.Halves.{lanes_halves}
use Rattle.standard.proofs.Digits as lanes
use Rattle.calculator_rules.specs.Definition.{Machine}
use Rattle.program_digits.specs.Codes.{codes}
use Rattle.program_digits.specs.Digits.{hex, hex_bytes}
use Rattle.program_digits.proofs.Laws.{decimal_length, length_digits, length_hex_bytes, hex_bytes_append}
use Rattle.program_listing.specs.Listing.{nonzero_line, register_line, register_lines, scalar_line, listing}

-- the bytes of a half, the low one first
pub one_byte : (k n : ℕ) → hex_bytes (Lanes.digits 8 (suc k) n) ≡ hex_bytes ((n % 256) ∷ []) ++ hex_bytes (Lanes.digits 8 k (n / 256))
unfolding hex_bytes
one_byte k n = ap (λ (l : List ℕ). l ++ hex_bytes (Lanes.digits 8 k (n / 256))) (sym (append-nil (hex 2 (n % 256))))

pub no_bytes : (k n : ℕ) → k ≡ 0 → hex_bytes (Lanes.digits 8 k n) ≡ []
unfolding hex_bytes
no_bytes k n e = rw e

-- both halves of a vector, the low one first
pub both_halves : (lo hi : ℕ) → lo < 2 ^ 64 → hex_bytes (Lanes.lanes 8 (lo + 2 ^ 64 * hi)) ≡ hex_bytes (Lanes.digits 8 8 lo) ++ hex_bytes (Lanes.digits 8 8 hi)
both_halves lo hi h = ap hex_bytes (lanes_halves 8 8 refl refl lo hi h) ∙ hex_bytes_append (Lanes.digits 8 8 lo) (Lanes.digits 8 8 hi)

-- a vector is all zero where both halves are
pub zero_halves : (lo hi : ℕ) → eqb (lo + 2 ^ 64 * hi) 0 ≡ (eqb lo 0 && eqb hi 0)
zero_halves lo hi = go (eqb lo 0) (eqb hi 0) refl refl
  where
    go : (s t : Bool) → eqb lo 0 ≡ s → eqb hi 0 ≡ t → eqb (lo + 2 ^ 64 * hi) 0 ≡ (s && t)
    go true true p q =
        let l = eqb-true lo 0 p in
        let h = eqb-true hi 0 q in
        eq-eqb (lo + 2 ^ 64 * hi) 0 (omega arith)
    go true false p q = ne_eqb (lo + 2 ^ 64 * hi) 0 (λ e. eqb-false hi 0 q (omega arith))
    go false t p q = ne_eqb (lo + 2 ^ 64 * hi) 0 (λ e. eqb-false lo 0 p (omega arith))

-- the registers from the lowest on
module _ (vs ws : List ℕ) (i : ℕ) where
  pub one_register : i < length vs → i < length ws
      → register_lines i (drop i vs) (drop i ws) ≡ register_line i (get_or vs i 0) (get_or ws i 0) ++ register_lines (i + 1) (drop (i + 1) vs) (drop (i + 1) ws)
  unfolding register_lines
  one_register h k = rw (add-one, drop-cons vs i 0 h, drop-cons ws i 0 k)

  pub no_registers : length vs ≤ i → register_lines i (drop i vs) (drop i ws) ≡ []
  unfolding register_lines
  no_registers h = rw (drop_of_length-le vs h)

nonzero_length : (i v w : ℕ) → length (nonzero_line i v w) ≤ 58
unfolding nonzero_line codes
nonzero_length i v w =
    simp length-append
    (omega (arith, length_digits 10 2 i, length_hex_bytes (Lanes.lanes 8 v), lanes.length_digits 8 16 v, decimal_length w))

register_length : (i v w : ℕ) → length (register_line i v w) ≤ 58
register_length i v w = go (eqb v 0) where
  go : (t : Bool) → length (cond t [] (nonzero_line i v w)) ≤ 58
  go true = omega arith
  go false = nonzero_length i v w

registers_length : (i : ℕ) (vs ws : List ℕ) → length (register_lines i vs ws) ≤ 58 * length vs
unfolding register_lines
registers_length i [] ws = omega arith
registers_length i (v ∷ vs) [] = omega arith
registers_length i (v ∷ vs) (w ∷ ws) = simp length-append (omega (arith, register_length i v w, registers_length (suc i) vs ws))

scalar_length : (k : Kind) (b : ℕ) → length (scalar_line k b) ≤ 23
unfolding scalar_line codes
scalar_length i32 b = simp length-append (omega (arith, length_digits 16 8 b))
scalar_length i64 b = simp length-append (omega (arith, length_digits 16 16 b))
scalar_length f32 b = simp length-append (omega (arith, length_digits 16 8 b))
scalar_length f64 b = simp length-append (omega (arith, length_digits 16 16 b))

pub listing_length : (m : Machine) (done refused : ℕ) → length m.registers ≡ 16 → length (listing m done refused) ≤ 1007
unfolding listing codes
listing_length m done refused h =
    simp length-append
    (omega (arith, decimal_length done, registers_length 0 m.registers m.writers, scalar_length m.kind m.bits, decimal_length refused))
