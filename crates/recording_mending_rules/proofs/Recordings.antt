-- What order 10 asks to be proved, of a whole file: "a block sent with a right check and one bit flipped, anywhere in the 4,096, comes out as sent if the tool
-- reaches it", and "one with two flipped is never altered". Assumes nothing.
use mathlib.Core.Path.{◌≡◌, refl, ap, ◌∙◌, subst}
use mathlib.Core.Bool.{Bool, true, false, cond}
use mathlib.Core.List.{List}
use Prim.Native.Nat.{ℕ, suc, ◌+◌, ◌-◌, ◌*◌, ◌<◌, ◌≤◌}
use native.Mathlib.Nat.{zero-add}
use native.Mathlib.Omega.{arith}
use borrow.Author.Tests.{eqb-true, lt-ltb}
use lib.Dec.{ltb, leb, eqb}
use lib.ListN.{length, get_or, take, drop, replicate, length-take, length-drop}
use Rattle.recording_crc16.specs.Remainder.{check}
use Rattle.recording_crc16.specs.Block.{right}
use Rattle.recording_layout.specs.Definition.{whole_blocks, blocks, block}
use Rattle.recording_layout.proofs.Below.{both}
use Rattle.recording_mending_rules.specs.Definition.{flipped, Mended, kept, put_back, beyond, mended, block_of, bit_of, is_mended, written, Mending}
use Rattle.recording_mending_rules.specs.Definition.{refused, done, mending}
use Rattle.recording_mending_rules.proofs.Blocks.{Block, flipped_twice, still_block, one_bit, two_bits}
use Rattle.recording_mending_rules.proofs.Files.{bit_out, block_at, bit_at, behind, written_le, goes_on, stops, never_past}

-- "a block sent with a right check"
pub record Sent (b : List ℕ) : Type 0 where
  pub whole : Block b
  pub checked : right b ≡ true

-- "if the tool reaches it": what it made of the file is no refusal, and every block before block k is written
pub record Reached (k : ℕ) (made : Mending × List ℕ) : Type 0 where
  pub accepted : made.0.refusal ≡ 0
  pub before : k ≤ made.0.blocks

-- block k is written: in the output it is b, and the answer has this bit for it, 4,096 for none; d stands for what would be read past the answer's end
pub record ComesOut (k : ℕ) (b : List ℕ) (bit : ℕ) (made : Mending × List ℕ) : Type 0 where
  pub counted : k < made.0.blocks
  pub in_place : block made.1 k ≡ b
  pub told : (d : ℕ) → get_or made.0.bits k d ≡ bit

-- block k is not written, and the output from its place on is as it was; a tool that reaches it stops there, and names it
pub record Unaltered (k : ℕ) (out : List ℕ) (made : Mending × List ℕ) : Type 0 where
  pub not_written : made.0.blocks ≤ k
  pub as_it_was : drop (512 * k) made.1 ≡ drop (512 * k) out
  pub named : Reached k made → (made.0.blocks ≡ k) × (made.0.stopped ≡ true)

-- a file is worked through, or refused with nothing written
by_refusal : (file out : List ℕ) (P : Mending × List ℕ → Type 0) → P (done file out) → ((n : ℕ) → P (refused (suc n), out)) → P (mending file out)
unfolding mending
by_refusal file out P p r = of (whole_blocks (length file)) (leb (length file) (length out))
  where
    of : (t u : Bool) → P (cond t (cond u (done file out) (refused 16, out)) (refused 13, out))
    of true true = p
    of true false = r 15
    of false u = r 12

module _ (file out : List ℕ) (k : ℕ) (long : length (block file k) ≡ 512) where
  in_file : k < blocks file
  in_file = omega (arith, rw (length-take, length-drop) at long)

  room : 512 * written (blocks file) 0 file ≤ length file
  room = omega (arith, written_le (blocks file) 0 file)

  -- a block that is kept or mended comes out so
  comes_out : (m : Mended) → mended (block file k) ≡ m → is_mended m ≡ true → Reached k (mending file out)
      → ComesOut k (block_of (block file k) m) (bit_of m) (mending file out)
  unfolding done
  comes_out m e can =
      by_refusal file out (λ (made : Mending × List ℕ). Reached k made → ComesOut k (block_of (block file k) m) (bit_of m) made) through
      (λ n r. absurd (omega arith))
    where
      through : Reached k (done file out) → ComesOut k (block_of (block file k) m) (bit_of m) (done file out)
      through r =
          let n = written (blocks file) 0 file in
          let more = goes_on file (blocks file) k in_file (ap is_mended e ∙ can) r.before in
          record {
            counted = more;
            in_place = block_at file n k (drop (512 * n) out) more room ∙ ap (block_of (block file k)) e;
            told = λ d. bit_at file n 0 k (replicate (37 - n) 4096) d more ∙ ap (bit_out file) (zero-add k) ∙ ap bit_of e;
          }

  -- one that is neither is left alone
  left_alone : mended (block file k) ≡ beyond → Unaltered k out (mending file out)
  unfolding done
  left_alone e =
      by_refusal file out (Unaltered k out) through (λ n. record { not_written = omega arith; as_it_was = refl; named = λ r. absurd (omega arith) })
    where
      can_not : is_mended (mended (block file k)) ≡ false
      can_not = ap is_mended e

      through : Unaltered k out (done file out)
      through =
          let few = never_past file (blocks file) k in_file can_not in
          record {
            not_written = few;
            as_it_was = behind file (written (blocks file) 0 file) k out few room;
            named = λ r. let last = stops file (blocks file) k in_file can_not r.before in
                (last, ap (λ (n : ℕ). ltb n (blocks file)) last ∙ lt-ltb k (blocks file) in_file);
          }

right_long : (b : List ℕ) → right b ≡ true → length b ≡ 512
unfolding right
right_long b e = eqb-true (length b) 512 (both (eqb (length b) 512) (eqb (check (take 510 b)) (get_or b 510 0 * 256 + get_or b 511 0)) e).0

is_kept : (b : List ℕ) → right b ≡ true → mended b ≡ kept
unfolding mended
is_kept b e = rw e

-- ---- what the order asks

module _ (file out b : List ℕ) (k : ℕ) (sent : Sent b) where
  -- "one bit flipped, anywhere in the 4,096, comes out as sent if the tool reaches it"; and the answer has that bit
  pub one_flipped : (j : ℕ) → j < 4096 → block file k ≡ flipped j b → Reached k (mending file out) → ComesOut k b j (mending file out)
  one_flipped j h e r =
      subst (λ (s : List ℕ). ComesOut k s j (mending file out)) (ap (flipped j) e ∙ flipped_twice b sent.whole j h)
      (comes_out file out k (ap length e ∙ (still_block b sent.whole j h).long) (put_back j)
      (ap mended e ∙ one_bit b sent.whole sent.checked j h) refl r)

  -- "one with two flipped is never altered", reached or not
  pub two_flipped : (i j : ℕ) → i < 4096 → j < 4096 → (i ≡ j → ⊥) → block file k ≡ flipped j (flipped i b) → Unaltered k out (mending file out)
  two_flipped i j hi hj ne e =
      left_alone file out k (ap length e ∙ (still_block (flipped i b) (still_block b sent.whole i hi) j hj).long)
      (ap mended e ∙ two_bits b sent.whole sent.checked i j hi hj ne)

-- "One whose check holds is kept."
pub right_kept : (file out : List ℕ) (k : ℕ) → right (block file k) ≡ true → Reached k (mending file out) → ComesOut k (block file k) 4096 (mending file out)
right_kept file out k e = comes_out file out k (right_long (block file k) e) kept (is_kept (block file k) e) refl
