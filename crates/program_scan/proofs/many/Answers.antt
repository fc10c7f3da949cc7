-- `program_scan::many` meets its contract. Assumes nothing.
use Prim.Native.Nat.{◌+◌}
use mathlib.Core.Path.{◌∙◌}
use native.Mathlib.Omega.{arith}
use borrow.Author.Count.{below_none}
use Rattle.program_digits.proofs.Puts.{said_as}
use Rattle.program_scan.proofs.Judging.{plains, meetings_are, few}
use Rattle.program_scan.proofs.many.Goals as goal

pub judge-requires : goal.judge-requires
judge-requires c =
    let given = c.args in
    let pre = c.requires in
    let here = c.distances.ensures.laid (omega (arith, pre.frame_bound, pre.buffer_bound)) (pre.distances_len.0, below_none _) in
    let later = c.distances-2.ensures.laid (omega (arith, pre.frame_bound, pre.buffer_bound)) (pre.distances_len.1, below_none _) in record {
      first_len = here.0;
      second_len = later.0;
      at_most_32 = λ i h. (
        few given.buffer.now c.distances.new.away given.at
            given.marker here i h,
        few given.buffer.now c.distances-2.new.away (given.at + given.frame)
            given.marker later i h,
      );
    }

pub put_many-requires : goal.put_many-requires
put_many-requires c =
    let given = c.args in
    let pre = c.requires in
    let here = c.distances.ensures.laid (omega (arith, pre.frame_bound, pre.buffer_bound)) (pre.distances_len.0, below_none _) in
    let later = c.distances-2.ensures.laid (omega (arith, pre.frame_bound, pre.buffer_bound)) (pre.distances_len.1, below_none _) in
    let top = c.requires in
    let judge = c.judge in record {
      ready = top.ready;
      number_bound = top.number_bound;
      used_in_bounds = top.used_in_bounds;
      codes_len = judge.auto.second ∙ later.0;
      plain_codes = plains given.buffer.now c.distances.new.away
          c.distances-2.new.away judge.new.second given.at
          given.marker given.tolerance given.frame pre.tolerance_bound here later judge.ensures;
    }

pub returns : goal.returns
returns c =
    let given = c.args in
    let pre = c.requires in
    let here = c.distances.ensures.laid (omega (arith, pre.frame_bound, pre.buffer_bound)) (pre.distances_len.0, below_none _) in
    let later = c.distances-2.ensures.laid (omega (arith, pre.frame_bound, pre.buffer_bound)) (pre.distances_len.1, below_none _) in
    let judge = c.judge in
    let put = c.put_many in record {
      next_ready = put.ensures.next_ready;
      meetings_put = λ k e. said_as (meetings_are given.buffer.now c.distances.new.away c.distances-2.new.away judge.new.second
          given.at given.marker given.tolerance given.frame
          pre.tolerance_bound here later judge.ensures k given.number e) put.ensures.wrote;
      used_bound = put.ensures.used_bound;
      distances_len_kept = (here.0, judge.auto.second ∙ later.0);
    }
