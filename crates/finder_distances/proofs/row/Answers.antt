-- `finder_distances::row` meets its contract. Assumes nothing.
use Prim.Native.Nat.{ℕ, ◌+◌, ◌*◌, ◌-◌, ◌/◌, ◌%◌, ◌^◌}
use mathlib.Core.Path.{◌≡◌, sym, ap, ◌∙◌}
use native.Mathlib.Nat.{add-zero}
use native.Mathlib.Omega.{arith}
use lib.ListN.{get_or, length-set}
use Rattle.finder_windows.specs.Definition.{binary, bits, marker_bits, window, distance}
use Rattle.finder_distances.specs.Windows.{after}
use Rattle.finder_distances.proofs.Numbers.{inside, set_more, at_row}
use borrow.Author.Rules.{rules}
use Rattle.finder_distances.proofs.row.Goals as goal

pub loop-j-init : goal.loop-j-init
loop-j-init c = (search rules, λ bs byte room given laid. rw (add-zero (32 * c.args.k)) laid)

pub seen-word-requires : goal.seen-word-requires
seen-word-requires c =
    let given = c.args in
    record { next_bound = c.requires.nexts_are_bytes ((given.bit + given.k) / 8 + c.loop-j.j) (omega arith); shift_bound = omega arith }

pub loop-j-preserved : goal.loop-j-preserved
loop-j-preserved c =
    let given = c.args in
    let loop = c.loop-j in
    let skip = (given.bit + given.k) / 8 in
    let shift = (given.bit + given.k) % 8 in (
      search rules,
      λ bs byte room spread laid.
          let here = spread.2 (skip + loop.j) (omega arith) in
          let place : 8 * (byte + (skip + loop.j)) + shift ≡ 8 * byte + given.bit + (8 * loop.j + given.k) = omega arith in
          let index : 32 * given.k + (loop.j + 1) ≡ 32 * given.k + loop.j + 1 = omega arith in
          let value : c.apart.result ≡ distance (window (bits bs) (8 * byte + given.bit + after (32 * given.k + loop.j))) (marker_bits given.marker) =
          c.apart.ensures
          ∙ ap (λ (x : ℕ). distance (binary 32 x) (marker_bits given.marker)) (c.seen-word.ensures
          ∙ ap (λ (n : ℕ). (get_or given.heads.now (skip + loop.j) 0 * 256 + n) / 2 ^ (8 - shift) % 2 ^ 32) here.1)
          ∙ inside bs (byte + (skip + loop.j)) (get_or given.heads.now (skip + loop.j) 0) shift given.marker (omega arith) (omega arith) here.2
          here.0
          ∙ ap (λ (q : ℕ). distance (window (bits bs) q) (marker_bits given.marker))
          (place ∙ ap (λ (q : ℕ). 8 * byte + given.bit + q) (sym (at_row given.k loop.j (omega arith))))
          in
          let before = loop.invariant.1 bs byte room spread laid in
          rw index (
            simp length-set before.0,
            set_more (λ i v. v ≡ distance (window (bits bs) (8 * byte + given.bit + after i)) (marker_bits given.marker))
                loop.away (32 * given.k + loop.j) c.apart.result (omega (arith, before.0)) value before.1,
          ),
    )

pub returns : goal.returns
returns c =
    let all : c.loop-j.j ≡ 32 = omega arith in
    rw all at c.loop-j.invariant.1
