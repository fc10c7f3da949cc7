-- A part of a text, by its places in the code.
use Rattle.std.specs.Prelude.{ℕ, ◌-◌, ◌≤◌, ◌≡◌, List, length, take, drop}
use Rattle.program_table.specs.declared.Span.{Span}

pub record Spans (text : List ℕ) (s : Span) (part : List ℕ) : Type 0 where
  pub low : s.start ≤ s.end
  pub high : s.end ≤ length text
  pub is : take (s.end - s.start) (drop s.start text) ≡ part
