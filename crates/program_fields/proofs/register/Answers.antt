-- `program_fields::register` meets its contract. Assumes nothing.
use borrow.Author.Rules.{rules}
use mathlib.Core.Path.{◌∙◌}
use Rattle.program_words.specs.Cut.{blank}
use Rattle.program_words.proofs.Scans.{scanned}
use Rattle.program_fields.proofs.Found.{no_word, no_r, is_register}
use Rattle.program_fields.proofs.register.Goals as goal

pub returns-in_default : goal.returns-in_default
returns-in_default c =
    let scan = scanned blank _ _ _ c.requires c.scan-end.ensures.place in
    record { inside = tt; is = no_word _ _ _ scan c.in_default.len_below }

pub returns-in_default-2 : goal.returns-in_default-2
returns-in_default-2 c =
    let scan = scanned blank _ _ _ c.requires c.scan-end.ensures.place in
    record { inside = tt; is = no_r _ _ _ scan c.in_default.len_at_least (search rules) }

pub returns : goal.returns
returns c =
    let scan = scanned blank _ _ _ c.requires c.scan-end.ensures.place in
    record {
      inside = c.within.ensures.inside;
      is = c.within.ensures.is ∙ is_register _ _ _ scan c.in-114.len_at_least (search rules);
    }
