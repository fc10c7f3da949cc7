-- `program_table::nth` meets its contract: each turn passes one line. Assumes nothing.
use Prim.Native.Nat.{ℕ, suc, ◌-◌}
use native.Mathlib.Omega.{arith}
use mathlib.Core.Path.{◌≡◌, ◌∙◌, sym, ap}
use mathlib.Core.List.{[]}
use lib.ListN.{get_or, drop}
use Rattle.program_words.specs.Cut.{newline, pieces}
use Rattle.program_words.proofs.Scans.{scanned}
use Rattle.program_words.proofs.Pieces.{first_piece, last_piece, next_piece}
use Rattle.program_table.proofs.nth.Goals as goal

pub returns-then-end-lines : goal.returns-then-end-lines
returns-then-end-lines c =
    let at = c.loop-k in
    let end = c.scan-end.result in
    let scan = (scanned newline _ _ _ c.loop-k.invariant.0 c.scan-end.ensures.place) in
    let left : at.k ≡ suc (at.k - 1) = omega arith in
    let none : end - end ≡ 0 = omega arith in
    record { low = omega arith; high = scan.high; is = rw none (sym (at.invariant.1 ∙ rw (last_piece newline _ _ _ scan (omega arith), left))) }

pub overflow_add-at : goal.overflow_add-at
overflow_add-at c = omega (arith, (scanned newline _ _ _ c.loop-k.invariant.0 c.scan-end.ensures.place).high)

pub loop-k-preserved : goal.loop-k-preserved
loop-k-preserved c =
    let given = c.args in
    let at = c.loop-k in
    let scan = (scanned newline _ _ _ c.loop-k.invariant.0 c.scan-end.ensures.place) in
    let left : at.k ≡ suc (at.k - 1) = omega arith in
    let more = next_piece newline _ _ _ scan (omega (arith, scan.high, c.if-end-lines.false)) in
    (omega (arith, scan.high), at.invariant.1 ∙ ap (λ (j : ℕ). get_or (pieces newline (drop at.at given.lines.now)) j []) left ∙ rw more)

pub returns : goal.returns
returns c =
    let at = c.loop-k in
    let scan = (scanned newline _ _ _ c.loop-k.invariant.0 c.scan-end-2.ensures.place) in
    let none : at.k ≡ 0 = omega arith in
    record { low = scan.low; high = scan.high; is = sym (at.invariant.1 ∙ rw (first_piece newline _ _ _ scan, none)) }
