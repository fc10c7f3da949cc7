-- `recording_mending_place::walk` meets its contract. The loop's invariant: w is the register that a flip of bit 4095 - i gives, and no bit past that gives q.
-- Assumes nothing.
use mathlib.Core.Path.{◌≡◌, refl, sym, ap, ◌∙◌}
use Prim.Native.Nat.{ℕ, ◌+◌, ◌-◌, ◌<◌}
use native.Mathlib.Decide.{dec_lt}
use native.Mathlib.Omega.{arith}
use Rattle.recording_crc16.specs.Remainder.{◌⊕◌, shift}
use Rattle.recording_crc16.specs.Powers.{times}
use Rattle.recording_mending_rules.specs.Place.{Place}
use Rattle.recording_crc16.proofs.Shift.{times_add}
use Rattle.recording_mending_place.proofs.walk.Goals as goal

pub loop-i-init : goal.loop-i-init
unfolding times shift ◌⊕◌
loop-i-init c = (omega arith, refl, λ j h e. absurd (omega arith))

pub overflow_sub-result : goal.overflow_sub-result
overflow_sub-result c = omega arith

hit : (q w i : ℕ) → i < 4096 → w ≡ times (i + 1) 32768 → w ≡ q → Place q (4095 - i)
hit q w i h e f =
    record {
      found = λ k. ap (λ (n : ℕ). times n 32768) (omega arith) ∙ sym e ∙ f;
      none = λ k j hj p. absurd (omega arith);
    }

miss : (q : ℕ) → ((j : ℕ) → j < 4096 → times (j + 1) 32768 ≡ q → ⊥) → Place q 4096
miss q no_one =
    record {
      found = λ k. absurd (omega arith);
      none = λ k j hj p. no_one (4095 - j) (omega arith) (ap (λ (n : ℕ). times n 32768) (omega arith) ∙ p);
    }

pub returns-then-power-q : goal.returns-then-power-q
returns-then-power-q c = hit c.args.q c.loop-i.power c.loop-i.i (omega arith)
    c.loop-i.invariant.1 c.if-power-q.true

pub overflow_step-i : goal.overflow_step-i
overflow_step-i c = omega arith

pub loop-i-smaller : goal.loop-i-smaller
loop-i-smaller c = omega arith

up : (n r : ℕ) → shift (times n r) ≡ times (n + 1) r
unfolding times
up n r = times_add n 1 r

-- one place more that does not give q
more : (q i : ℕ) → ((j : ℕ) → j < i → times (j + 1) 32768 ≡ q → ⊥) → (times (i + 1) 32768 ≡ q → ⊥)
    → (j : ℕ) → j < i + 1 → times (j + 1) 32768 ≡ q → ⊥
more q i before here j h e = go (dec_lt j i)
  where
    go : Dec (j < i) → ⊥
    go (yes k) = before j k e
    go (no k) = here (ap (λ (n : ℕ). times (n + 1) 32768) (omega arith) ∙ e)

pub loop-i-preserved : goal.loop-i-preserved
loop-i-preserved c = (
  omega arith,
  c.next-power.ensures ∙ ap shift c.loop-i.invariant.1 ∙ up (c.loop-i.i + 1) 32768,
  more c.args.q c.loop-i.i c.loop-i.invariant.2
      (λ e. c.if-power-q.false (c.loop-i.invariant.1 ∙ e)),
)

pub returns : goal.returns
returns c = miss c.args.q (λ j h. c.loop-i.invariant.2 j (omega arith))
