-- `recording::replay::replay_records` meets its contract: what is left of the replay is the replay. Assumes nothing.
use mathlib.Core.Path.{◌≡◌, refl, sym, ap, ◌∙◌}
use Prim.Native.Nat.{ℕ, ◌+◌, ◌-◌}
use native.Mathlib.Nat.{sub-zero}
use native.Mathlib.Omega.{arith}
use mathlib.Core.List.{List}
use lib.ListN.{take}
use lib.Seq.{length-take-le}
use Rattle.calculator_rules.specs.Definition.{Machine, start}
use Rattle.calculator_state.specs.State.{held}
use Rattle.recording_fields.specs.Definition.{Answer, agrees, compared}
use Rattle.recording_compare.specs.Verdict.{verdict_of}
use Rattle.recording_compare.specs.declared.Verdict.{Verdict}
use Rattle.recording_layout.specs.Definition.{record_at}
use Rattle.recording_rules.specs.Definition.{trace_of, next, replay_from}
use Rattle.recording_rules.proofs.Accounts.{replay_end, replay_turn, replay_stop}
use Rattle.recording.proofs.replay.replay_records.Goals as goal

other : (a : Verdict) → (a ≡ Verdict.Agrees → ⊥) → verdict_of a ≡ agrees → ⊥
other Verdict.Agrees h e = h refl
other (Verdict.Differs n) h e = cc

pub loop-at-init : goal.loop-at-init
loop-at-init c = ap (λ (k : ℕ). replay_from k 0 c.args.file.now start) (sub-zero c.args.n)

pub slice_bounds-account-end : goal.slice_bounds-account-end
slice_bounds-account-end c = sym (length-take-le 32 c.in-Some.r.now (omega (arith, c.in-Some.ensures.len)))

-- what is compared, of the record at its place
at_place : (n at : ℕ) (file r t : List ℕ) (m : Machine) (a : Answer) → r ≡ record_at file at → t ≡ trace_of at m (take 32 r) → a ≡ compared at r t
    → compared at (record_at file at) (trace_of at m (take 32 (record_at file at))) ≡ a
at_place n at file r t m a e f g = ap (λ (r : List ℕ). compared at r (trace_of at m (take 32 r))) (sym e) ∙ ap (compared at r) (sym f) ∙ sym g

pub returns-in_default-verdict : goal.returns-in_default-verdict
returns-in_default-verdict c =
    let l = c.loop-at in
    let a = c.args in
    let file = a.file.now in
    let m = held l.w l.writers l.scalar in
    let e = at_place a.n l.at file _ _ m _ c.in-Some.ensures.bytes c.account-left.ensures.traced c.compare-verdict.ensures in
    sym (sym l.invariant ∙ replay_stop a.n l.at file m c.loop-at-test.true (verdict_of c.compare-verdict.result) e
    (other c.compare-verdict.result c.in_default-verdict.not-Agrees))

pub loop-at-preserved : goal.loop-at-preserved
loop-at-preserved c =
    let l = c.loop-at in
    let a = c.args in
    let file = a.file.now in
    let m = held l.w l.writers l.scalar in
    let r = c.in-Some.ensures.bytes in
    let e = at_place a.n l.at file _ _ m _ r c.account-left.ensures.traced c.compare-verdict.ensures ∙ ap verdict_of c.in-Agrees.is in
    ap (replay_from (a.n - (l.at + 1)) (l.at + 1) file) (c.account-left.ensures.onward ∙ ap (λ (r : List ℕ). next l.at m (take 32 r)) r)
    ∙ sym (replay_turn a.n l.at file m c.loop-at-test.true e) ∙ l.invariant

pub returns : goal.returns
returns c =
    let l = c.loop-at in
    let a = c.args in
    sym (sym l.invariant ∙ replay_end a.n l.at a.file.now (held l.w l.writers l.scalar) (omega arith))
