-- `program_scan::put_many` meets its contract. Assumes nothing.
use Prim.Native.Nat.{◌+◌, ◌*◌}
use mathlib.Core.Path.{◌≡◌, refl, ◌∙◌}
use native.Mathlib.Nat.{add-zero}
use native.Mathlib.Omega.{arith}
use Rattle.program_digits.proofs.Puts.{then, said_as, no_more}
use Rattle.program_scan.proofs.Ink.{all_none, all_more}
use Rattle.program_scan.proofs.put_many.Goals as goal

pub loop-j-init : goal.loop-j-init
loop-j-init c =
    let given = c.args in (
      omega arith,
      refl,
      refl,
      rw (add-zero given.number) c.requires.ready,
      said_as (all_none given.codes.now given.number)
          (no_more given.block.now given.pen.used),
      omega arith,
    )

pub put_byte-pen-requires : goal.put_byte-pen-requires
put_byte-pen-requires c =
    let inv = c.loop-j.invariant in
    let pre = c.requires in
    record {
      ready = inv.3;
      number_bound = omega (arith, pre.number_bound);
      used_in_bounds = omega (arith, pre.used_in_bounds, inv.1, inv.5);
      from_bound = omega arith;
      codes_len = pre.codes_len;
      plain_codes = pre.plain_codes;
    }

pub loop-j-preserved : goal.loop-j-preserved
loop-j-preserved c =
    let given = c.args in
    let loop = c.loop-j in
    let inv = loop.invariant in
    let put = c.put_byte-pen in
    let number : given.number + 8 * loop.j + 8 ≡ given.number + 8 * (loop.j + 1) = omega arith in (
      omega arith,
      put.auto.block ∙ inv.1,
      put.auto.text ∙ inv.2,
      rw number at put.ensures.next_ready,
      said_as (all_more given.codes.now given.number loop.j) (then inv.4 put.ensures.wrote),
      omega (arith, inv.5, put.ensures.used_bound),
    )

pub returns : goal.returns
returns c =
    let loop = c.loop-j in
    let inv = loop.invariant in
    let all : loop.j ≡ 32 = omega arith in record {
      next_ready = rw all at inv.3;
      wrote = rw all at inv.4;
      used_bound = omega (arith, inv.5);
    }
