-- The fields of a line, as the code finds them. Assumes nothing.
use mathlib.Core.Path.{◌≡◌, refl, ◌∙◌}
use mathlib.Core.List.{List, [], ◌∷◌}
use Prim.Native.Nat.{ℕ, suc, ◌-◌, ◌<◌, ◌≤◌}
use native.Mathlib.Omega.{arith}
use borrow.Author.Tests.{eq-eqb, ne_eqb}
use lib.ListN.{length, get_or, take, drop, drop_of_length-le}
use lib.Seq.{take_all}
use Rattle.program_arguments.specs.Arguments.{decimal}
use Rattle.program_words.specs.Cut.{blank, before, onward}
use Rattle.program_words.specs.Stops.{Scanned}
use Rattle.program_fields.specs.Fields.{Field, register, lane, mark, byte, nothing, between, number_in, as_register, find}

-- a word as a register, by its first character
module _ (rest : List ℕ) where
  empty_word : (w : List ℕ) → length w < 1 → nothing ≡ as_register rest w
  empty_word [] h = refl
  empty_word (c ∷ cs) h = absurd (omega arith)

  other_word : (w : List ℕ) → 1 ≤ length w → (get_or w 0 0 ≡ 114 → ⊥) → nothing ≡ as_register rest w
  other_word [] h k = absurd (omega arith)
  other_word (c ∷ cs) h k = rw (ne_eqb c 114 k)

  r_word : (w : List ℕ) → 1 ≤ length w → get_or w 0 0 ≡ 114 → between 0 15 rest (decimal (take (length w - 1) (drop 1 w))) ≡ as_register rest w
  r_word [] h k = absurd (omega arith)
  r_word (c ∷ cs) h k = rw (eq-eqb c 114 k, take_all (suc (length cs) - 1) cs (omega arith))

-- a word, by a scan
module _ (line : List ℕ) (at end : ℕ) (s : Scanned blank line at end) where
  pub is_number : (low high : ℕ) → between low high (drop end line) (decimal (take (end - at) (drop at line))) ≡ number_in low high (drop at line)
  is_number low high = rw (s.left, s.passed)

  to_register : as_register (drop end line) (take (end - at) (drop at line)) ≡ find register (drop at line)
  unfolding find
  to_register = rw (s.left, s.passed)

  abbrev found_word : List ℕ
  found_word = take (end - at) (drop at line)

  pub no_word : length found_word < 1 → nothing ≡ find register (drop at line)
  no_word h = empty_word (drop end line) found_word h ∙ to_register

  module _ (h : 1 ≤ length found_word) where
    pub no_r : (get_or found_word 0 0 ≡ 114 → ⊥) → nothing ≡ find register (drop at line)
    no_r k = other_word (drop end line) found_word h k ∙ to_register

    pub is_register : get_or found_word 0 0 ≡ 114
        → between 0 15 (drop end line) (decimal (take (length found_word - 1) (drop 1 found_word))) ≡ find register (drop at line)
    is_register k = r_word (drop end line) found_word h k ∙ to_register

-- past the end of a line
none_past : (f : Field) → nothing ≡ find f []
unfolding find before onward
none_past register = refl
none_past lane = refl
none_past mark = refl
none_past byte = refl

pub past : (f : Field) (line : List ℕ) (at : ℕ) → length line ≤ at → nothing ≡ find f (drop at line)
past f line at h = rw (drop_of_length-le line h) (none_past f)
