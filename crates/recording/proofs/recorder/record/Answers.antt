-- `recording::recorder::record` meets its contract. Assumes nothing.
use mathlib.Core.Path.{◌≡◌, sym, ap, ◌∙◌}
use Prim.Native.Nat.{ℕ, ◌+◌, ◌*◌, ◌/◌}
use native.Mathlib.Omega.{arith}
use mathlib.Core.List.{List}
use borrow.Author.Rules.{rules}
use Rattle.standard_refusal.specs.Number.{number_of}
use Rattle.standard_refusal.proofs.Numbers.{not_0}
use Rattle.recording_rules.specs.Recorded.{recorded_of}
use Rattle.recording_packing.specs.Definition.{blocks_for}
use Rattle.recording_packing.proofs.Blocks.{fitting}
use Rattle.recording_rules.specs.Definition.{Recorded, wrote, rejected}
use Rattle.recording_rules.proofs.Theorems.{whole, when_refused, when_empty, when_sealed, when_short}
use Rattle.recording.proofs.recorder.record.Goals as goal

pub returns-in_err-judge : goal.returns-in_err-judge
returns-in_err-judge c =
    let a = c.args in
    let r = c.in_err-judge.field-0.0 in
    let e : recorded_of c.from_residual.result ≡ rejected (number_of r) = search rules in
    ap (λ (x : Recorded). (x, a.out.now)) e ∙ when_refused a.list.now a.out.now c.in_err-judge.ensures (not_0 r)

pub returns-then-list-eq0 : goal.returns-then-list-eq0
returns-then-list-eq0 c =
    let a = c.args in
    when_empty a.list.now a.out.now (sym c.in_ok-judge.ensures) c.if-list-eq0.true

pub returns-then-not-has_room_for : goal.returns-then-not-has_room_for
returns-then-not-has_room_for c =
    let a = c.args in
    when_short a.list.now a.out.now (sym c.in_ok-judge.ensures) c.if-list-eq0.false
    (sym c.has_room_for.ensures ∙ c.if-not-has_room_for.true)

pub record_steps-n-requires : goal.record_steps-n-requires
record_steps-n-requires c = record {
  list_len_bound = (whole _ (sym c.in_ok-judge.ensures)).1;
  list_in_bounds = (fitting _ _ (sym c.has_room_for.ensures ∙ c.if-not-has_room_for.false)).enough;
}

pub returns : goal.returns
returns c =
    let a = c.args in
    let n = c.record_steps-n.result in
    let left = c.record_steps-n.new.out in
    ap (λ (b : ℕ). (wrote (512 * b), c.seal.new.out)) (let same : (n + 6) / 7 ≡ blocks_for (64 * n) = omega arith in same)
    ∙ when_sealed a.list.now a.out.now (sym c.in_ok-judge.ensures) c.if-list-eq0.false n left
    (sym c.has_room_for.ensures ∙ c.if-not-has_room_for.false) c.record_steps-n.auto.out
    c.record_steps-n.ensures.counted.1
    c.record_steps-n.ensures.written c.record_steps-n.ensures.beyond c.seal.ensures

pub has_room_for-requires : goal.has_room_for-requires
has_room_for-requires c = sym c.in_ok-judge.ensures
