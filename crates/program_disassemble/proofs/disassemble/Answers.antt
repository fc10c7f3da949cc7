-- `program_disassemble::disassemble` meets its contract, by what is judged of the length. Assumes nothing.
use borrow.Author.Rules.{rules}
use mathlib.Core.Path.{refl, sym, ◌∙◌}
use Rattle.standard_refusal.proofs.Numbers.{not_0, unrefused}
use Rattle.program_digits.specs.Codes.{codes}
use Rattle.program_digits.proofs.Puts.{filled}
use Rattle.program_answer.proofs.None.{none}
use Rattle.program_disassemble.proofs.Lines.{said_length, text_length, told_refused, told_text}
use Rattle.program_disassemble.proofs.disassemble.Goals as goal

pub returns-in-Err : goal.returns-in-Err
unfolding codes
returns-in-Err c =
    let n = c.from-number.result in
    rw (told_refused _ n (c.from-number.ensures ∙ c.in-Err.ensures) (rw c.from-number.ensures (not_0 c.in-Err.refusal)))
    (record { output = none _; said = filled (said_length n) (search rules) c.put_count.ensures; status = refl })

pub returns : goal.returns
returns c =
    let passed = unrefused _ c.in_default.not-Err in
    rw (told_text _ _ c.judge.ensures passed)
    (record {
      output = filled (text_length c.args.list.now (sym c.judge.ensures ∙ passed))
          (search rules) c.put_steps.ensures;
      said = none _;
      status = refl;
    })
