-- `program_show::put_records` meets its contract. Assumes nothing.
use borrow.Author.Rules.{rules}
use mathlib.Core.Path.{◌≡◌, refl, sym, ap, ◌∙◌}
use mathlib.Core.List.{List, ◌++◌}
use Prim.Native.Nat.{ℕ, ◌-◌}
use native.Mathlib.Omega.{arith}
use lib.ListN.{take}
use Rattle.calculator_rules.specs.Definition.{start}
use Rattle.calculator_state.specs.State.{held}
use Rattle.recording_layout.specs.Definition.{record_at}
use Rattle.program_digits.proofs.Puts.{then, no_more, said_as}
use Rattle.program_show.specs.Show.{show_from}
use Rattle.program_show.proofs.Records.{step_long, none_left, one_more}
use Rattle.program_show.proofs.put_records.Goals as goal

pub loop-at-init : goal.loop-at-init
loop-at-init c =
    let a = c.args in
    let all : a.n ≡ a.n - 0 = omega arith in
    (omega arith, refl, λ left r p. said_as (ap (λ (k : ℕ). show_from k 0 a.file.now start) all) p)

pub overflow_mul-from : goal.overflow_mul-from
overflow_mul-from c = omega arith

pub overflow_add-to : goal.overflow_add-to
overflow_add-to c = omega arith

pub slice_bounds-b-count : goal.slice_bounds-b-count
slice_bounds-b-count c = omega arith

pub slice_bounds-b-start : goal.slice_bounds-b-start
slice_bounds-b-start c = omega arith

pub slice_bounds-b-end : goal.slice_bounds-b-end
slice_bounds-b-end c = omega arith

pub overflow_mul-start : goal.overflow_mul-start
overflow_mul-start c = omega arith

pub overflow_add-start : goal.overflow_add-start
overflow_add-start c = omega arith

pub overflow_add-end : goal.overflow_add-end
overflow_add-end c = omega arith

pub slice_bounds-r-count : goal.slice_bounds-r-count
slice_bounds-r-count c = omega arith

pub slice_bounds-r-start : goal.slice_bounds-r-start
slice_bounds-r-start c = omega arith

pub slice_bounds-r-end : goal.slice_bounds-r-end
slice_bounds-r-end c = omega arith

pub overflow_cast-at : goal.overflow_cast-at
overflow_cast-at c = omega arith

pub slice_bounds-account-end : goal.slice_bounds-account-end
slice_bounds-account-end c =
    sym (step_long c.args.n
    c.loop-at.at c.args.file.now (omega arith) (omega arith))

pub slice_bounds-record_of-end : goal.slice_bounds-record_of-end
slice_bounds-record_of-end c =
    sym (step_long c.args.n
    c.loop-at.at
    c.args.file.now (omega arith) (omega arith))

pub record_of-d-requires : goal.record_of-d-requires
record_of-d-requires c =
    step_long c.args.n
    c.loop-at.at
    c.args.file.now (omega arith) (omega arith)

pub overflow_add-at : goal.overflow_add-at
overflow_add-at c = omega arith

pub overflow_add-at-in-loop-at : goal.overflow_add-at-in-loop-at
overflow_add-at-in-loop-at c = omega (arith, c.loop-at-test.true)

pub loop-at-smaller : goal.loop-at-smaller
loop-at-smaller c = omega (arith, c.loop-at-test.true)

pub loop-at-preserved : goal.loop-at-preserved
loop-at-preserved c =
    let l = c.loop-at in
    let a = c.args in
    let file = a.file.now in
    let s = take 32 (record_at file l.at) in
    let more = c.loop-at-test.true in
    let d = c.record_of-d.ensures
    ∙ ap (λ (t : List ℕ). s ++ t) c.account-left.ensures.traced in (
      omega arith,
      search rules,
      λ left r p. l.invariant.2 left r
          (said_as (one_more a.n l.at file (held l.w l.writers l.scalar) more d
          c.account-left.ensures.onward) (then c.put_record-next.ensures p)),
    )

pub returns : goal.returns
returns c =
    let l = c.loop-at in
    let a = c.args in
    l.invariant.2 _ _ (said_as (none_left a.n l.at a.file.now (held l.w l.writers l.scalar) (omega arith)) (no_more _ _))
