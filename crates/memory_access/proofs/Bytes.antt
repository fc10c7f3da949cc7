-- A part of the memory, read and written: the n bytes from a place on, up to the place e behind them; and 16 bytes as two numbers of 8.
-- Assumes nothing.
use Rattle.std.proofs.Common.{◌≡◌, ℕ, ◌+◌, ◌-◌, ◌*◌, ◌^◌, ◌<◌, List, [], ◌++◌, length, take, drop, sym, ap, ◌∙◌, arith, append_assoc, append-nil, length-append, length-drop}
use borrow.Rule.Slice.PartMut.{put_mid}
use Rattle.std.proofs.lemmas.List.{drop-drop, take_at, drop_at, drop_all}
use Rattle.standard.specs.Lanes.{digits, joined}
use Rattle.standard.specs.Memory.{number_at, with_number}
use Rattle.standard.proofs.Digits.{length_digits, digits_append}

module _ (m : List ℕ) (at n e : ℕ) where
  pub read_part : {r : ℕ} → r ≡ joined 8 (take (e - at) (drop at m)) → e ≡ at + n → r ≡ number_at m at n
  unfolding number_at
  read_part p behind = p ∙ ap (λ (k : ℕ). joined 8 (take k (drop at m))) (omega arith)

  pub written_part : (x : ℕ) {after : List ℕ} → after ≡ digits 8 n x → e ≡ at + n → put_mid at (e - at) m after ≡ with_number m at n x
  unfolding with_number
  written_part x p behind =
      let k : e - at ≡ n = omega arith in
      rw (k, p)
      (ap (λ (l : List ℕ). take at m ++ (digits 8 n x ++ l)) (drop-drop n at m) ∙ sym (append_assoc (take at m) (digits 8 n x) (drop (at + n) m)))

pub written_halves : (n : ℕ) {lo : ℕ} (hi : ℕ) (before : List ℕ) {low high : List ℕ} → lo < 2 ^ (8 * n) → length before ≡ n + n → low ≡ digits 8 n lo → high ≡ digits 8 n hi
    → put_mid n (length (low ++ drop n before) - n) (low ++ drop n before) high ≡ digits 8 (n + n) (lo + 2 ^ (8 * n) * hi)
written_halves n {lo} hi before b l p q =
    let first = length_digits 8 n lo in
    let none : drop (length (digits 8 n lo ++ drop n before) - n) (drop n before) ≡ [] =
    drop_all (length (digits 8 n lo ++ drop n before) - n) (drop n before) (omega (arith, first, length-append (digits 8 n lo) (drop n before), length-drop n before)) in
    rw (p, q, take_at (digits 8 n lo) (drop n before) n first, drop_at (digits 8 n lo) (drop n before) n first, none, append-nil)
    (sym (digits_append 8 n n lo hi b))
