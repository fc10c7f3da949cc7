-- `program_recordings::put_bits` meets its contract. Assumes nothing.
use borrow.Author.Rules.{rules}
use native.Mathlib.Omega.{arith}
use Rattle.std.proofs.Common.{◌≡◌, sym, ap, ◌∙◌, map, length, drop, ℕ, ◌+◌, ◌++◌}
use Rattle.std.proofs.lemmas.List.{length-map, get_or-map}
use Rattle.program_digits.proofs.Puts.{then, no_more, said_as}
use Rattle.recording_mending_place.specs.Mended.{number_of}
use Rattle.program_recordings.specs.Lines.{bit_line, bit_lines}
use Rattle.program_recordings.proofs.Bits.{one_bit, no_bits}
use Rattle.program_recordings.proofs.put_bits.Goals as goal

pub loop-block-init : goal.loop-block-init
loop-block-init c = (search rules, λ left r p. p)

pub loop-block-preserved : goal.loop-block-preserved
loop-block-preserved c =
    let at = c.loop-block in
    let bits = c.args.bits.now in
    let here = get_or-map number_of bits at.block c.index-bits-block.result 0 c.loop-block-test.true ∙ ap number_of (sym c.index-bits-block.is) in
    let line = one_bit at.block (map number_of bits) (omega (arith, length-map bits number_of)) ∙ ap (λ (n : ℕ). bit_line at.block n ++ bit_lines (at.block + 1) (drop (at.block + 1) (map number_of bits))) here in
    (search rules, λ left r p. at.invariant.1 left r (said_as line (then c.put_bit-next.ensures p)))

pub returns : goal.returns
returns c =
    let at = c.loop-block in
    let bits = c.args.bits.now in
    at.invariant.1 _ _ (said_as (no_bits at.block (map number_of bits) (omega (arith, length-map bits number_of))) (no_more _ _))
