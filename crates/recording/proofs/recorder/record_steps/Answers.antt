-- `recording::recorder::record_steps` meets its contract: the records written, and what is left of the run, are the run's records. Assumes nothing.
use mathlib.Core.Path.{◌≡◌, refl, sym, ap, ◌∙◌}
use Prim.Native.Nat.{ℕ, ◌+◌, ◌-◌, ◌*◌, ◌/◌, ◌≤◌}
use native.Mathlib.Nat.{sub-zero}
use native.Mathlib.Omega.{arith}
use borrow.Rule.Slice.PartMut.{same_len_mid}
use lib.ListN.{length}
use Rattle.calculator_rules.specs.Definition.{start}
use Rattle.calculator_state.specs.State.{held}
use Rattle.recording_packing.specs.Definition.{standing}
use Rattle.recording_packing.proofs.Standing.{place}
use Rattle.recording_rules.specs.Definition.{records_from, records_of}
use Rattle.recording_rules.proofs.Accounts.{run_end, has_place, count_more, count_last, count_end, one_more, last_one, as_before}
use Rattle.recording.proofs.recorder.record_steps.Goals as goal

at_start : (f : ℕ → ℕ) (n : ℕ) → 64 * 0 + f (n - 0) ≡ f n
at_start f n = rw sub-zero (omega arith)

pub loop-at-init : goal.loop-at-init
unfolding records_of standing
loop-at-init c =
    let list = c.args.list.now in
    let n = length list / 32 in (
      refl,
      omega arith,
      omega arith,
      omega arith,
      refl,
      at_start (λ (k : ℕ). length (records_from k 0 list start)) n,
      ap (λ (k : ℕ). records_from k 0 list start) (sub-zero n),
      refl,
    )

pub shape_of-out-then-refused-ne0 : goal.shape_of-out-then-refused-ne0
shape_of-out-then-refused-ne0 c =
    let l = c.loop-at in
    same_len_mid (place l.at) (place l.at + 64 - place l.at) l.out c.put.new.out c.put.auto.out ∙ l.invariant.4

pub returns-then-refused-ne0 : goal.returns-then-refused-ne0
returns-then-refused-ne0 c =
    let l = c.loop-at in
    let a = c.args in
    let n = length a.list.now / 32 in
    let m = held l.w l.writers l.scalar in
    let room : place l.at + 64 ≤ length l.out =
    has_place n l.at a.list.now m (omega arith) (omega arith) (length (records_of a.list.now)) l.invariant.5 (length l.out) l.invariant.3 in
    let after = held c.account-left.new.w c.account-left.new.writers c.account-left.result.scalar in record {
      counted = (
        omega arith,
        count_last n l.at a.list.now m (omega arith) (omega arith) c.account-left.result.refused after c.account-left.ensures.answer
            c.if-refused-ne0.true ∙ l.invariant.5,
      );
      written = last_one n l.at a.list.now l.out m (omega arith) room (omega arith) _ c.put.new.out c.account-left.ensures.traced c.put.ensures
          c.account-left.result.refused after c.account-left.ensures.answer c.if-refused-ne0.true
          ∙ l.invariant.6;
      beyond = as_before n l.at a.list.now l.out m (omega arith) room (omega arith) _ c.put.new.out c.account-left.ensures.traced c.put.ensures
          a.out.now l.invariant.7;
    }

pub loop-at-preserved : goal.loop-at-preserved
loop-at-preserved c =
    let l = c.loop-at in
    let a = c.args in
    let n = length a.list.now / 32 in
    let m = held l.w l.writers l.scalar in
    let room : place l.at + 64 ≤ length l.out =
    has_place n l.at a.list.now m (omega arith) (omega arith) (length (records_of a.list.now)) l.invariant.5 (length l.out) l.invariant.3 in
    let after = held c.account-left.new.w c.account-left.new.writers c.account-left.result.scalar in
    let same = same_len_mid (place l.at) (place l.at + 64 - place l.at) l.out c.put.new.out c.put.auto.out in (
      refl,
      omega arith,
      l.invariant.2,
      rw same l.invariant.3,
      same ∙ l.invariant.4,
      count_more n l.at a.list.now m (omega arith) (omega arith) c.account-left.result.refused after c.account-left.ensures.answer c.if-refused-ne0.false
          ∙ l.invariant.5,
      one_more n l.at a.list.now l.out m (omega arith) room (omega arith) _ c.put.new.out c.account-left.ensures.traced c.put.ensures
          c.account-left.result.refused after c.account-left.ensures.answer c.if-refused-ne0.false
          ∙ l.invariant.6,
      as_before n l.at a.list.now l.out m (omega arith) room (omega arith) _ c.put.new.out c.account-left.ensures.traced c.put.ensures
          a.out.now l.invariant.7,
    )

pub returns : goal.returns
returns c =
    let l = c.loop-at in
    let a = c.args in
    let n = length a.list.now / 32 in
    let m = held l.w l.writers l.scalar in record {
      counted = (omega arith, count_end n l.at a.list.now m (omega arith) ∙ l.invariant.5);
      written = sym (run_end n l.at a.list.now (standing l.at l.out) m (omega arith)) ∙ l.invariant.6;
      beyond = l.invariant.7;
    }

pub overflow_mul-from : goal.overflow_mul-from
overflow_mul-from c = omega arith

pub overflow_add-to : goal.overflow_add-to
overflow_add-to c = omega arith

pub slice_bounds-s-count : goal.slice_bounds-s-count
slice_bounds-s-count c = omega arith

pub slice_bounds-s-start : goal.slice_bounds-s-start
slice_bounds-s-start c = omega arith

pub slice_bounds-s-end : goal.slice_bounds-s-end
slice_bounds-s-end c = omega arith

pub overflow_cast-at : goal.overflow_cast-at
overflow_cast-at c = omega arith

pub overflow_mul-start : goal.overflow_mul-start
overflow_mul-start c = omega arith

pub overflow_mul-start-in-loop-at : goal.overflow_mul-start-in-loop-at
overflow_mul-start-in-loop-at c = omega arith

pub overflow_add-start : goal.overflow_add-start
overflow_add-start c = omega arith

pub overflow_add-start-in-loop-at : goal.overflow_add-start-in-loop-at
overflow_add-start-in-loop-at c = omega arith

pub overflow_add-end : goal.overflow_add-end
overflow_add-end c = omega arith

pub slice_bounds-put-count : goal.slice_bounds-put-count
slice_bounds-put-count c = omega arith

pub slice_bounds-put-start : goal.slice_bounds-put-start
slice_bounds-put-start c =
    let l = c.loop-at in
    let a = c.args in
    let room : place l.at + 64 ≤ length l.out =
    has_place (length a.list.now / 32) l.at a.list.now (held l.w l.writers l.scalar) (omega arith) (omega arith)
    (length (records_of a.list.now)) l.invariant.5 (length l.out) l.invariant.3 in
    omega arith

pub slice_bounds-put-end : goal.slice_bounds-put-end
slice_bounds-put-end c =
    let l = c.loop-at in
    let a = c.args in
    let room : place l.at + 64 ≤ length l.out =
    has_place (length a.list.now / 32) l.at a.list.now (held l.w l.writers l.scalar) (omega arith) (omega arith)
    (length (records_of a.list.now)) l.invariant.5 (length l.out) l.invariant.3 in
    omega arith

pub overflow_add-at : goal.overflow_add-at
overflow_add-at c = omega arith

pub loop-at-smaller : goal.loop-at-smaller
loop-at-smaller c = omega arith

pub shape_of-out : goal.shape_of-out
shape_of-out c = c.loop-at.invariant.4
