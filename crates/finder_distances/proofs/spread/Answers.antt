-- `finder_distances::spread` meets its contract. Assumes nothing.
use Prim.Native.Nat.{◌+◌}
use mathlib.Core.Path.{◌≡◌, refl}
use native.Mathlib.Omega.{arith}
use borrow.Author.Count.{below_more}
use lib.ListN.{length-set}
use lib.Seq.{get_or-set_same, get_or-set_other}
use borrow.Author.Rules.{rules}
use Rattle.finder_distances.proofs.spread.Goals as goal

pub loop-j-init : goal.loop-j-init
loop-j-init c = (search rules, λ given. given)

pub overflow_cast-nexts : goal.overflow_cast-nexts
overflow_cast-nexts c = record {
  fits = omega (
    arith,
    c.type_inv.buffer
        (c.args.byte + c.loop-j.j + 4),
  );
}

pub loop-j-preserved : goal.loop-j-preserved
loop-j-preserved c =
    let given = c.args in
    let loop = c.loop-j in (
      search rules,
      λ begun.
          let before = loop.invariant.1 begun in (
            simp length-set before.0,
            simp length-set before.1,
            below_more _ loop.j
                (λ i h. rw (
                  get_or-set_other loop.heads loop.j i _ 0 (λ e. omega arith),
                  get_or-set_other loop.nexts loop.j i _ 0
                      (λ e. omega arith),
                ) (before.2 i h))
                (rw (
                  get_or-set_same loop.heads loop.j c.four_at.result 0 (omega (arith, before.0)),
                  get_or-set_same loop.nexts
                      loop.j _ 0 (omega (arith, before.1)),
                )
                (c.four_at.ensures, refl, omega (arith, c.type_inv.buffer (given.byte + loop.j + 4)))),
          ),
    )

pub returns : goal.returns
returns c =
    let all : c.loop-j.j ≡ 33 = omega arith in
    rw all at c.loop-j.invariant.1
