-- `program_table::find` meets its contract: each turn passes one line. Assumes nothing.
use Prim.Native.Nat.{◌-◌}
use native.Mathlib.Nat.{add-zero}
use mathlib.Core.Bool.{false≢true}
use native.Mathlib.Omega.{arith}
use mathlib.Core.Path.{◌≡◌, ◌∙◌, sym}
use lib.ListN.{take, drop}
use Rattle.program_words.specs.Cut.{newline}
use Rattle.program_words.proofs.Scans.{scanned}
use Rattle.program_words.proofs.Pieces.{first_piece, last_piece, next_piece}
use Rattle.program_table.specs.Place.{place}
use Rattle.program_table.proofs.Places.{place_here, place_later}
use Rattle.std.proofs.lemmas.Slice.Eq.{slice_eq-Decides}
use Rattle.std.proofs.lemmas.Bool.Decides.{Decides-eqb}
use Rattle.program_table.proofs.find.Goals as goal

pub slice_bounds-eq-count : goal.slice_bounds-eq-count
slice_bounds-eq-count c = omega (arith, (scanned newline _ _ _ c.loop-line.invariant.0 c.scan-end.ensures.place).low)

pub slice_bounds-eq-start : goal.slice_bounds-eq-start
slice_bounds-eq-start c =
    let scan = scanned newline _ _ _ c.loop-line.invariant.0 c.scan-end.ensures.place in
    omega (arith, scan.low, scan.high)

pub slice_bounds-eq-end : goal.slice_bounds-eq-end
slice_bounds-eq-end c =
    let scan = scanned newline _ _ _ c.loop-line.invariant.0 c.scan-end.ensures.place in
    omega (arith, scan.low, scan.high)

pub returns-then-eq : goal.returns-then-eq
returns-then-eq c =
    let at = c.loop-line in
    let same = slice_eq-Decides Decides-eqb (take (c.scan-end.result - at.at) (drop at.at c.args.lines.now)) c.args.line.now _ c.eq.ensures in
    let piece = same.0 c.if-eq.true in
    let scan = scanned newline _ _ _ c.loop-line.invariant.0 c.scan-end.ensures.place in
    sym (at.invariant.2 ∙ rw (first_piece newline _ _ _ scan, place_here _ _ _ piece, add-zero))

pub returns-then-end-lines : goal.returns-then-end-lines
unfolding place
returns-then-end-lines c =
    let at = c.loop-line in
    let same = slice_eq-Decides Decides-eqb (take (c.scan-end.result - at.at) (drop at.at c.args.lines.now)) c.args.line.now _ c.eq.ensures in
    let other :
    take (c.scan-end.result - at.at) (drop at.at c.args.lines.now) ≡ c.args.line.now → ⊥ =
    λ e. false≢true (sym c.if-eq.false ∙ same.1 e) in
    let scan = scanned newline _ _ _ c.loop-line.invariant.0 c.scan-end.ensures.place in
    sym (at.invariant.2 ∙ rw (last_piece newline _ _ _ scan (omega arith), place_later _ _ _ other) (omega arith))

pub overflow_add-at : goal.overflow_add-at
overflow_add-at c = omega (arith, (scanned newline _ _ _ c.loop-line.invariant.0 c.scan-end.ensures.place).high)

pub loop-line-smaller : goal.loop-line-smaller
loop-line-smaller c =
    let scan = scanned newline _ _ _ c.loop-line.invariant.0 c.scan-end.ensures.place in
    omega (arith, scan.low, scan.high)

pub loop-line-preserved : goal.loop-line-preserved
loop-line-preserved c =
    let at = c.loop-line in
    let same = slice_eq-Decides Decides-eqb (take (c.scan-end.result - at.at) (drop at.at c.args.lines.now)) c.args.line.now _ c.eq.ensures in
    let other :
    take (c.scan-end.result - at.at) (drop at.at c.args.lines.now) ≡ c.args.line.now → ⊥ =
    λ e. false≢true (sym c.if-eq.false ∙ same.1 e) in
    let scan = scanned newline _ _ _ c.loop-line.invariant.0 c.scan-end.ensures.place in (
      omega (arith, scan.high),
      omega (arith, scan.low),
      at.invariant.2
          ∙ rw (next_piece newline _ _ _ scan (omega (arith, scan.high, c.if-end-lines.false)), place_later _ _ _ other) (omega arith),
    )
