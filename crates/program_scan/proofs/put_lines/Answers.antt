-- `program_scan::put_lines` meets its contract. Assumes nothing.
use mathlib.Core.Path.{◌≡◌, refl, sym, ap, subst, ◌∙◌}
use mathlib.Core.Bool.{true, false}
use native.Mathlib.Omega.{arith}
use lib.ListN.{length, take}
use lib.Seq.{length-take-le}
use Rattle.program_scan.specs.Whole.{Lined}
use Rattle.program_scan.specs.declared.Put.{Put}
use Rattle.program_scan.proofs.Lining.{short, none, to_the_end, part_of_it, less}
use Rattle.program_scan.proofs.put_lines.Goals as goal

pub returns-then-is_shut : goal.returns-then-is_shut
returns-then-is_shut c =
    let given = c.args in
    let is = c.put_to.ensures in record {
      used_in_bounds = omega (arith, ap (λ (z : Put). z.used) is);
      lined = λ X s small made few. let all = s.all in subst
          (λ (z : Put). Lined given.marker given.tolerance given.frame given.from given.count X given.window.now given.scan
          given.block.now given.block.now z) (sym is)
          (short given.marker given.tolerance given.frame given.from given.count X given.window.now given.scan given.block.now s
          (c.is_shut.ensures.filled_bound c.if-is_shut.true s.frame small s.inside (omega arith)));
    }

pub overflow_mul-positions : goal.overflow_mul-positions
overflow_mul-positions c = let known = c.is_shut.ensures.le_frame c.if-is_shut.false in record { fits = omega (arith, known.3) }

pub overflow_sub-positions : goal.overflow_sub-positions
overflow_sub-positions c = let known = c.is_shut.ensures.le_frame c.if-is_shut.false in omega (arith, known.4)

pub limit-end-requires : goal.limit-end-requires
limit-end-requires c = let known = c.is_shut.ensures.le_frame c.if-is_shut.false in omega (arith, known.3)

pub returns-then-end-start : goal.returns-then-end-start
returns-then-end-start c =
    let given = c.args in
    let known = c.is_shut.ensures.le_frame c.if-is_shut.false in
    let is = c.put_to-then-end-start.ensures in record {
      used_in_bounds = omega (arith, ap (λ (z : Put). z.used) is);
      lined = λ X s small made few. subst
          (λ (z : Put). Lined given.marker given.tolerance given.frame given.from given.count X given.window.now given.scan
          given.block.now given.block.now z) (sym is)
          (none given.marker given.tolerance given.frame given.from given.count X given.window.now given.scan given.block.now s
          known.4 (rw c.limit-end.ensures at c.if-end-start.true));
    }

pub slice_bounds-fill-end : goal.slice_bounds-fill-end
slice_bounds-fill-end c =
    let given = c.args in
    let known = c.is_shut.ensures.le_frame c.if-is_shut.false in
    sym (length-take-le given.scan.filled given.window.now (omega (arith, known.2)))

pub overflow_add-from : goal.overflow_add-from
overflow_add-from c = let known = c.is_shut.ensures.le_frame c.if-is_shut.false in record { fits = omega (arith, known.3) }

pub overflow_mul-from : goal.overflow_mul-from
overflow_mul-from c = let known = c.is_shut.ensures.le_frame c.if-is_shut.false in record { fits = omega (arith, known.3) }

pub fill-put-requires : goal.fill-put-requires
fill-put-requires c =
    let given = c.args in
    let known = c.is_shut.ensures.le_frame c.if-is_shut.false in
    let size : length (take given.scan.filled given.window.now)
    ≡ given.scan.filled = length-take-le given.scan.filled given.window.now (omega (arith, known.2)) in
    let limit = c.limit-end.ensures in record {
      from_le_end = omega arith;
      le_frame = known.0;
      frame_bound = omega (arith, size, limit, known.4);
      buffer_bound = omega (arith, size, known.3);
      tolerance_bound = known.1;
    }

pub returns-then-at-end : goal.returns-then-at-end
returns-then-at-end c =
    let given = c.args in
    let known = c.is_shut.ensures.le_frame c.if-is_shut.false in
    let fill = c.fill-put in
    let end = c.limit-end.ensures in
    let is = c.put_to-then-at-end.ensures in record {
      used_in_bounds = rw (ap (λ (z : Put). z.used) is) fill.ensures.from_le_at.2;
      lined = λ X s small made few. subst
          (λ (z : Put). Lined given.marker given.tolerance given.frame given.from given.count X given.window.now given.scan
          given.block.now fill.new.block z) (sym is)
          (to_the_end given.marker given.tolerance given.frame given.from given.count X given.window.now given.scan
          given.block.now s known.4 fill.new.block fill.result.used fill.result.at (rw end at (fill.ensures.put_to made)) true refl
          (c.if-at-end.true ∙ end));
    }

pub returns : goal.returns
returns c =
    let given = c.args in
    let known = c.is_shut.ensures.le_frame c.if-is_shut.false in
    let fill = c.fill-put in
    let end = c.limit-end.ensures in
    let short_of = less fill.result.at c.limit-end.result fill.ensures.from_le_at.1 c.if-at-end.false in
    let is = c.put_to-2.ensures in record {
      used_in_bounds = rw (ap (λ (z : Put). z.used) is) fill.ensures.from_le_at.2;
      lined = λ X s small made few. subst
          (λ (z : Put). Lined given.marker given.tolerance given.frame given.from given.count X given.window.now given.scan
          given.block.now fill.new.block z) (sym is)
          (part_of_it given.marker given.tolerance given.frame given.from given.count X given.window.now given.scan
          given.block.now s known.4 fill.new.block fill.result.used fill.result.at (rw end at (fill.ensures.put_to made)) false refl
          (rw end at short_of));
    }
