-- What a stop of the code stands for, and what a scan finds.
use Rattle.std.specs.Prelude.{ℕ, ◌-◌, ◌≤◌, Bool, ◌≡◌, List, length, take, drop}
use Rattle.program_words.specs.Cut.{newline, blank, solid, before, onward}
use Rattle.program_words.specs.declared.Stop.{Stop}

abbrev pub stops : Stop → ℕ → Bool
stops Stop.Line c = newline c
stops Stop.Blank c = blank c
stops Stop.Word c = solid c

-- `end` is the first place from `from` on at which a character stops, or the text's length
pub record Scanned (stop : ℕ → Bool) (text : List ℕ) (from end : ℕ) : Type 0 where
  pub low : from ≤ end
  pub high : end ≤ length text
  pub passed : take (end - from) (drop from text) ≡ before stop (drop from text)
  pub left : drop end text ≡ onward stop (drop from text)
