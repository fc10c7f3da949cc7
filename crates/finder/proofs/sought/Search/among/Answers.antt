-- `finder::sought::Search::among` meets its contract: what a search from the position reached gives is the answer. Assumes nothing.
use Prim.Native.Nat.{ℕ, ◌+◌, ◌*◌, ◌-◌, ◌/◌, ◌<◌, ◌≤◌}
use mathlib.Core.Path.{◌≡◌, refl, sym, ◌∙◌}
use mathlib.Core.List.{List}
use native.Mathlib.Omega.{arith}
use lib.ListN.{length, take, drop}
use borrow.Author.Rules.{rules}
use Rattle.finder_windows.specs.Definition.{binary, bits, marker_bits, window, distance, first_from}
use Rattle.finder_windows.proofs.Distance.{distance_inside}
use Rattle.finder_windows.proofs.Positions.{far, none, one, passed, met_early, none_early}
use Rattle.finder.proofs.sought.Search.among.Goals as goal
use Rattle.finder.proofs.sought.Search.among.Goals.{then-first-self+else-is_some, else-first-self}

pub loop-k-init : goal.loop-k-init
loop-k-init c = (search rules, refl)

-- the distances that are taken from the two words are those in the buffer
second : (buffer : List ℕ) (at count frame marker k word d : ℕ) → let end = (8 * at + count + frame + 30) / 8 in
    k < count → count ≤ 16 → 64 ≤ frame → 8 * at + count + frame + 31 ≤ 8 * length buffer → binary 64 word ≡ bits (take 8 (drop (end - 7) buffer))
    → d ≡ distance (window (binary 64 word) (8 * at + frame + 56 - 8 * end + k)) (marker_bits marker)
    → d ≡ distance (window (bits buffer) (8 * at + k + frame)) (marker_bits marker)
second buffer at count frame marker k word d few most wide room same e =
    let end = (8 * at + count + frame + 30) / 8 in
    let below = 8 * at + frame + 56 - 8 * end + k in
    let place : 8 * (end - 7) + below ≡ 8 * at + k + frame = omega arith in
    e ∙ rw place at (distance_inside buffer (end - 7) below word marker (omega arith) (omega arith) same)

pub returns-then-is_some : goal.returns-then-is_some
returns-then-is_some c =
    let given = c.args in
    let s = given.self.now in
    let loop = c.loop-k in
    let first = c.apart-first.ensures
    ∙ distance_inside s.buffer.now given.at loop.k c.word_at-here.result s.marker (omega (arith, s.long)) (omega arith) c.word_at-here.ensures in
    let here = c.judged-found.ensures
    ∙ one (bits s.buffer.now) (marker_bits s.marker) s.tolerance s.frame (8 * given.at + loop.k) first
    (second s.buffer.now given.at given.count s.frame s.marker loop.k c.word_at-later.result
    c.apart-second.result (omega arith) (omega arith) (omega (arith, s.long)) (omega arith) c.word_at-later.ensures c.apart-second.ensures) in
    met_early _ _ _ _ 1 (given.count - loop.k) (8 * given.at + loop.k) (omega arith) c.judged-found.result (sym c.is_some.ensures ∙ c.if-is_some.true) here
    ∙ sym loop.invariant.1

pub loop-k-preserved : goal.loop-k-preserved
loop-k-preserved c =
    let given = c.args in
    let s = given.self.now in
    let k = c.loop-k.k in
    let first = c.apart-first.ensures
    ∙ distance_inside s.buffer.now given.at k c.word_at-here.result s.marker (omega (arith, s.long)) (omega arith) c.word_at-here.ensures in
    let left : given.count - k - 1 ≡ given.count - (k + 1) = omega arith in
    let next : 8 * given.at + k + 1 ≡ 8 * given.at + (k + 1) = omega arith in (
      search rules,
      elim c.if-first-self.branch [
        | then-first-self+else-is_some w ↦ none_early _ _ _ _ 1 (given.count - k) (8 * given.at + k) (omega arith) w.judged-found.result
            (sym w.is_some.ensures ∙ w.if-is_some.false)
            (w.judged-found.ensures ∙ one (bits s.buffer.now) (marker_bits s.marker) s.tolerance s.frame (8 * given.at + k) first
            (second s.buffer.now given.at given.count s.frame s.marker k c.word_at-later.result
            w.apart-second.result (omega arith) (omega arith) (omega (arith, s.long)) (omega arith) c.word_at-later.ensures w.apart-second.ensures))
            left next c.loop-k.invariant.1
        | else-first-self w ↦ passed _ _ _ _ 1 (given.count - k) (8 * given.at + k) (omega arith) left next c.loop-k.invariant.1 11
            (sym (none _ _ _ _ 1 (8 * given.at + k)
            (λ j h. let here : 8 * given.at + k + j ≡ 8 * given.at + k = omega arith in rw here
            (far _ _ _ _ (8 * given.at + k) first (omega (arith, w.if-first-self.false))))))
      ],
    )

pub returns : goal.returns
unfolding first_from
returns c =
    let given = c.args in
    let none : given.count - c.loop-k.k ≡ 0 = omega arith in
    sym (c.loop-k.invariant.1 ∙ rw none)
