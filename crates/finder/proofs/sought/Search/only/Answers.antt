-- `finder::sought::Search::only` meets its contract: the one position, judged by its two windows. Assumes nothing.
use Prim.Native.Nat.{◌+◌, ◌*◌, ◌-◌}
use mathlib.Core.Path.{◌≡◌, sym, ◌∙◌}
use native.Mathlib.Omega.{arith}
use lib.ListN.{length}
use Rattle.finder_windows.specs.Definition.{bits, marker_bits}
use Rattle.finder_windows.proofs.Distance.{distance_inside}
use Rattle.finder_windows.proofs.Positions.{far, none, one}
use Rattle.finder.proofs.sought.Search.only.Goals as goal

pub returns-then-first-self : goal.returns-then-first-self
returns-then-first-self c =
    let s = c.args.self.now in
    let first = c.apart-first.ensures
    ∙ distance_inside s.buffer.now 0 0 c.word_at.result s.marker (omega (arith, s.long)) (omega arith) c.word_at.ensures in
    sym (none (bits s.buffer.now) (marker_bits s.marker) s.tolerance s.frame 1 0
    (λ k h. let here : 0 + k ≡ 0 = omega arith in rw here
    (far (bits s.buffer.now) (marker_bits s.marker) s.tolerance s.frame 0 first (omega arith))))

pub returns : goal.returns
returns c =
    let s = c.args.self.now in
    let first = c.apart-first.ensures
    ∙ distance_inside s.buffer.now 0 0 c.word_at.result s.marker (omega (arith, s.long)) (omega arith) c.word_at.ensures in
    let word = c.word_at-2 in
    let last : 8 * (length s.buffer.now - 8) + 32 ≡ 0 + s.frame = omega (arith, s.long) in
    let second = c.apart-second.ensures
    ∙ rw last at (distance_inside s.buffer.now (length s.buffer.now - 8) 32 word.result s.marker (omega (arith, s.long)) (omega arith)
    word.ensures)
    in
    c.judged.ensures ∙ one (bits s.buffer.now) (marker_bits s.marker) s.tolerance s.frame 0
    first second
