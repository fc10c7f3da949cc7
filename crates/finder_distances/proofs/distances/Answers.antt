-- `finder_distances::distances` meets its contract. Assumes nothing.
use Prim.Native.Nat.{◌+◌, ◌*◌, ◌/◌, ◌%◌}
use mathlib.Core.Path.{◌≡◌, refl}
use native.Mathlib.Omega.{arith}
use borrow.Author.Count.{below_none}
use borrow.Author.Rules.{rules}
use Rattle.finder_distances.proofs.distances.Goals as goal

pub row-requires : goal.row-requires
row-requires c =
    let s = c.spread.ensures (refl, refl, below_none _) in
    record { bit_bound = omega arith; k_bound = omega arith; nexts_are_bytes = λ j h. omega (arith, (s.2 j h).1, (s.2 j h).2) }

pub loop-k-preserved : goal.loop-k-preserved
loop-k-preserved c =
    let given = c.args in
    let loop = c.loop-k in
    let place : 8 * (given.p / 8) + given.p % 8 ≡ given.p = omega arith in
    let row : 32 * loop.k + 32 ≡ 32 * (loop.k + 1) = omega arith in (
      search rules,
      λ room begun.
          rw (place, row) at (c.row.ensures given.buffer.now (given.p / 8) room
          (c.spread.ensures (refl, refl, below_none _)) (rw place (loop.invariant.1 room begun))),
    )

pub returns : goal.returns
returns c =
    let all : c.loop-k.k ≡ 8 = omega arith in
    record { laid = rw all at c.loop-k.invariant.1; away_unchanged = λ short. absurd (omega arith) }
