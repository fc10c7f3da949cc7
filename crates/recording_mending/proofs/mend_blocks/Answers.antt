-- `recording_mending::mend_blocks` meets its contract. Assumes nothing.
use Rattle.std.proofs.Common.{◌≡◌, refl, sym, ap, ap₂, ◌∙◌, arith, ℕ, ◌+◌, ◌-◌, ◌*◌, ◌/◌, ◌<◌, ◌≤◌, true, false, cond, eqb, List, [], length, get_or, map}
use Rattle.std.specs.Prelude.{Option, Some, None, Ok}
use Rattle.std.specs.Simd.{first_chunks}
use native.Mathlib.Nat.{sub-zero, zero-add}
use borrow.Rule.Slice.PartMut.{same_len_mid}
use borrow.Author.Tests.{eq-eqb, lt-ltb, le-ltb}
use Rattle.std.proofs.lemmas.List.{length-set, map-set}
use Rattle.recording_layout.specs.Definition.{blocks, block}
use Rattle.recording_layout.proofs.Chunks.{count_blocks, nth_block, length_block}
use Rattle.recording_mending_rules.specs.Definition.{Mended, beyond, mended, is_mended, bit_of, block_of, blocks_from, bits_from}
use Rattle.recording_mending_rules.proofs.Files.{block_put, bit_put, one_more, no_more, none_left, ended}
use Rattle.recording_mending_place.specs.Mended.{number_of, mended_of}
use Rattle.recording_mending_place.specs.declared.bit.Bit.{Bit}
use Rattle.recording_mending.proofs.mend_blocks.Goals as goal

-- what is told of a block among the pieces of the file
told : (file : List ℕ) (bs : List (List ℕ)) (k : ℕ) (m : Mended) → bs ≡ first_chunks 512 (length file / 512) file → k < length bs
    → m ≡ cond (eqb (length (get_or bs k [])) 512) (mended (get_or bs k [])) beyond → m ≡ mended (block file k)
told file bs k m e h f =
    f ∙ ap (λ (b : List ℕ). cond (eqb (length b) 512) (mended b) beyond) (nth_block file bs e k h)
    ∙ rw (eq-eqb (length (block file k)) 512 (length_block file bs e k h))

-- a block that is kept or has a bit put back can be written
written_so : (bit : Option Bit) → is_mended (mended_of (Ok bit)) ≡ true
written_so None = refl
written_so (Some bit) = refl

bit_so : (bit : Option Bit) → bit_of (mended_of (Ok bit)) ≡ number_of bit
bit_so None = refl
bit_so (Some bit) = refl

pub loop-k-init : goal.loop-k-init
unfolding blocks_from bits_from
loop-k-init c = (c.requires.file_in_bounds, refl, refl, rw sub-zero (zero-add _), refl, refl)

pub returns-in_default : goal.returns-in_default
returns-in_default c =
    let l = c.loop-k in
    let file = c.args.file.now in
    let n = count_blocks file _ c.as_chunks.ensures.front in
    let more : l.k < blocks file = omega arith in
    let e = told file _ l.k _ c.as_chunks.ensures.front c.loop-k-test.true c.place.ensures in
    let stop : is_mended (mended (block file l.k)) ≡ false = ap is_mended (sym e ∙ ap mended_of c.in_default.is) in
    ended file l.k true (map number_of l.bits) l.out c.args.out.now (sym (no_more file (blocks file) l.k more stop) ∙ l.invariant.3)
    (sym (lt-ltb l.k (blocks file) more)) l.invariant.4 l.invariant.5

pub loop-k-preserved : goal.loop-k-preserved
loop-k-preserved c =
    let l = c.loop-k in
    let file = c.args.file.now in
    let n = count_blocks file _ c.as_chunks.ensures.front in
    let more : l.k < blocks file = omega arith in
    let bit = c.in-Ok.bit in
    let e = sym (ap mended_of c.in-Ok.is) ∙ told file _ l.k _ c.as_chunks.ensures.front c.loop-k-test.true c.place.ensures in
    let long : 512 * (l.k + 1) ≤ length file = omega arith in (
      l.invariant.0,
      same_len_mid (512 * l.k) (512 * l.k + 512 - 512 * l.k) l.out c.put.new.out c.put.auto.out ∙ l.invariant.1,
      length-set l.bits l.k bit ∙ l.invariant.2,
      sym (one_more file (blocks file) l.k more (ap is_mended (sym e) ∙ written_so bit)) ∙ l.invariant.3,
      map-set number_of l.bits l.k bit ∙ bit_put file l.k (map number_of l.bits) (omega arith) l.invariant.4 (ap bit_of (sym e) ∙ bit_so bit),
      block_put file l.k long l.out c.args.out.now c.put.new.out l.invariant.5
          (c.put.ensures ∙ ap₂ block_of (nth_block file _ c.as_chunks.ensures.front l.k c.loop-k-test.true) e),
    )

pub shape_of-out : goal.shape_of-out
shape_of-out c = c.loop-k.invariant.1

pub returns : goal.returns
returns c =
    let l = c.loop-k in
    let file = c.args.file.now in
    let n = count_blocks file _ c.as_chunks.ensures.front in
    let none : blocks file ≤ l.k = omega arith in
    let k : length c.as_chunks.result.0.now ≡ l.k = omega arith in
    rw k
    (ended file l.k false (map number_of l.bits) l.out c.args.out.now (sym (none_left file (blocks file) l.k none) ∙ l.invariant.3)
    (sym (le-ltb l.k (blocks file) none)) l.invariant.4 l.invariant.5)
