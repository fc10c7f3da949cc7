-- `finder::sought::Search::by_words` meets its contract: what a search from the position reached gives is the answer. Assumes nothing.
use Prim.Native.Nat.{ℕ, ◌+◌, ◌*◌, ◌<◌, ◌≤◌}
use mathlib.Core.Path.{◌≡◌, refl, sym, ◌∙◌}
use mathlib.Core.List.{List}
use native.Mathlib.Omega.{arith}
use lib.ListN.{length, take, drop}
use borrow.Author.Rules.{rules}
use Rattle.finder_windows.specs.Definition.{binary, bits, marker_bits, window, distance}
use Rattle.finder_windows.proofs.Distance.{distance_inside}
use Rattle.finder_windows.proofs.Positions.{far, none, passed, met_early, none_early}
use Rattle.finder.proofs.sought.Search.by_words.Goals as goal
use Rattle.finder.proofs.sought.Search.by_words.Goals.{then-near+else-is_some, else-near}

pub loop-left-init : goal.loop-left-init
loop-left-init c = (search rules, refl)

pub returns-then-is_some : goal.returns-then-is_some
returns-then-is_some c =
    let loop = c.loop-left in
    met_early _ _ _ _ 32 loop.left (8 * loop.at) (omega arith) c.through-found.result (sym c.is_some.ensures ∙ c.if-is_some.true) c.through-found.ensures
    ∙ sym loop.invariant.1

-- a word in which nothing is near has no window in the buffer that is
quiet : (buffer : List ℕ) (at word marker tolerance : ℕ) → 8 * at + 64 ≤ 8 * length buffer → binary 64 word ≡ bits (take 8 (drop at buffer))
    → ((k : ℕ) → k < 32 → tolerance < distance (window (binary 64 word) k) (marker_bits marker))
    → (k : ℕ) → k < 32 → tolerance < distance (window (bits buffer) (8 * at + k)) (marker_bits marker)
quiet buffer at word marker tolerance room same all k h = rw (distance_inside buffer at k word marker (omega arith) (omega arith) same) at (all k h)

pub loop-left-preserved : goal.loop-left-preserved
loop-left-preserved c =
    let s = c.args.self.now in
    let loop = c.loop-left in
    let next : 8 * loop.at + 32 ≡ 8 * (loop.at + 4) = omega arith in (
      omega arith,
      elim c.if-near.branch [
        | then-near+else-is_some w ↦ none_early _ _ _ _ 32 loop.left (8 * loop.at) (omega arith) w.through-found.result
            (sym w.is_some.ensures ∙ w.if-is_some.false) w.through-found.ensures refl next loop.invariant.1
        | else-near w ↦
            let far_all = quiet s.buffer.now loop.at c.word_at.result s.marker s.tolerance (omega (arith, s.long)) c.word_at.ensures
            (c.near.ensures w.if-near.false) in
            passed _ _ _ _ 32 loop.left (8 * loop.at) (omega arith) refl next loop.invariant.1 11
            (sym (none _ _ _ _ 32 (8 * loop.at) (λ k h. far _ _ _ _ (8 * loop.at + k) refl (far_all k h))))
      ],
    )

pub returns : goal.returns
returns c = c.through.ensures ∙ sym c.loop-left.invariant.1
