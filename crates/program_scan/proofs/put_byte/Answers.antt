-- `program_scan::put_byte` meets its contract. Assumes nothing.
use Prim.Native.Nat.{◌+◌, ◌*◌, ◌/◌}
use mathlib.Core.Path.{◌≡◌, refl, ◌∙◌}
use native.Mathlib.Nat.{add-zero}
use native.Mathlib.Omega.{arith}
use Rattle.program_digits.proofs.Puts.{then, said_as, no_more}
use Rattle.program_scan.proofs.Ink.{tolds_none, tolds_more}
use Rattle.program_scan.proofs.put_byte.Goals as goal

pub loop-i-init : goal.loop-i-init
loop-i-init c =
    let given = c.args in
    let none : given.from / 32 ≡ 0 = omega arith in (
      omega arith,
      omega arith,
      refl,
      refl,
      rw (none, add-zero given.number) c.requires.ready,
      rw none
          (said_as (tolds_none given.codes.now given.from given.number) (no_more given.block.now given.pen.used)),
      omega arith,
    )

pub put_position-pen-requires : goal.put_position-pen-requires
put_position-pen-requires c =
    let loop = c.loop-i in
    let inv = loop.invariant in
    let pre = c.requires in record {
      ready = inv.4;
      number_bound = omega (arith, pre.number_bound);
      used_in_bounds = omega (arith, pre.used_in_bounds, inv.2, inv.6);
      plain = pre.plain_codes loop.i (omega arith);
    }

pub loop-i-preserved : goal.loop-i-preserved
loop-i-preserved c =
    let given = c.args in
    let loop = c.loop-i in
    let inv = loop.invariant in
    let put = c.put_position-pen in
    let next : (loop.i + 32) / 32 ≡ loop.i / 32 + 1 = omega arith in
    let index : given.from + 32 * (loop.i / 32) ≡ loop.i = omega (arith, inv.0) in
    let number : given.number + loop.i / 32 + 1 ≡ given.number + (loop.i / 32 + 1) = omega arith in (
      omega (arith, inv.0),
      omega (arith, inv.0, inv.1),
      put.auto.block ∙ inv.2,
      put.auto.text ∙ inv.3,
      rw (next, ← number) put.ensures.next_ready,
      rw next (said_as (tolds_more given.codes.now given.from given.number (loop.i / 32) ∙ rw index) (then inv.5 put.ensures.wrote)),
      omega (arith, inv.6, put.ensures.used_bound),
    )

pub returns : goal.returns
returns c =
    let given = c.args in
    let loop = c.loop-i in
    let inv = loop.invariant in
    let all : loop.i / 32 ≡ 8 = omega (arith, inv.0, inv.1) in record {
      next_ready = rw all at inv.4;
      wrote = rw all at inv.5;
      used_bound = omega (arith, inv.6);
    }
