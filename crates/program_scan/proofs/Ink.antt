-- A line, and the moves that put it. Assumes nothing.
use Prim.Native.Nat.{ℕ, zero, suc, ◌+◌, ◌*◌, ◌-◌, ◌/◌, ◌%◌, ◌^◌, ◌<◌, ◌≤◌}
use mathlib.Core.Path.{◌≡◌, refl, sym, ap, ◌∙◌}
use mathlib.Core.List.{List, [], ◌∷◌, ◌++◌, append_assoc, append-nil}
use native.Mathlib.Numerals.{add-one}
use native.Mathlib.Omega.{arith}
use borrow.Author.Tests.{lt-ltb, le-ltb}
use lib.ListN.{length, take, drop, get_or, length-append, length-drop}
use lib.Seq.{drop-cons, drop-drop, take_at, take-take, take-add, take_all, paste, take-paste, drop-paste, length-paste, length-take-le, take-append-add}
use Rattle.program_digits.specs.Codes.{codes}
use Rattle.program_digits.specs.Digits.{digits, decimal}
use Rattle.program_digits.specs.Put.{written, Wrote}
use Rattle.program_digits.proofs.Laws.{length_digits}
use Rattle.program_digits.proofs.Puts.{then, pasted, said_as, filled}
use Rattle.capture_meetings.specs.Meetings.{Meeting, met}
use Rattle.program_scan.specs.Lines.{line, lines}
use Rattle.program_scan.specs.Pen.{little, Digits, Ready, told, tolds, all_told}
use Rattle.program_scan.proofs.Numbers.{ten, decimal_is, front_and_last, one_digit}

-- a text that has room is there, and the rest of the list stays
pub whole : {out left a : List ℕ} {r : ℕ} → length a ≤ length out → Wrote out 0 a left r → (r ≡ length a) × (left ≡ a ++ drop (length a) out)
whole h put = let f = filled h refl put in (f.count, f.is)

-- ---- the bytes of a word

pub length_little : (n w : ℕ) → length (little n w) ≡ n
unfolding little
length_little zero w = refl
length_little (suc n) w = ap suc (length_little n (w / 256))

cons_parts : {a b : ℕ} {xs ys : List ℕ} → a ∷ xs ≡ b ∷ ys → (a ≡ b) × (xs ≡ ys)
cons_parts e = (cc, cc)

pub little_next : (n i w rest : ℕ) → i < n → drop i (little n w) ≡ little (n - i) rest
    → (get_or (little n w) i 0 ≡ rest % 256) × (drop (i + 1) (little n w) ≡ little (n - (i + 1)) (rest / 256))
unfolding little
little_next n i w rest h e =
    let more : n - i ≡ suc (n - (i + 1)) = omega arith in
    let parts = cons_parts (sym (drop-cons (little n w) i 0 (rw length_little h)) ∙ e ∙ ap (λ (k : ℕ). little k rest) more) in
    (parts.0, ap (λ (k : ℕ). drop k (little n w)) (add-one i) ∙ parts.1)

-- ---- the text of a position

pub laid : (text pos rest : List ℕ) (n N : ℕ) → length pos ≡ 9 → Digits n N → text ≡ (pos ++ decimal N) ++ rest → take (8 + n) text ≡ pos
    ++ digits 10 (n - 1) (N / 10)
laid text pos rest n N nine c e =
    let some = c.some in
    let front = digits 10 (n - 1) (N / 10) in
    let last = 48 + N % 10 in
    let size : length (pos ++ front) ≡ 8 + n = omega (arith, length-append pos front, length_digits 10 (n - 1) (N / 10)) in
    ap (take (8 + n)) (e ∙ ap (λ (l : List ℕ). (pos ++ l) ++ rest) (decimal_is n N c ∙ front_and_last n N some)
    ∙ ap (λ (l : List ℕ). l ++ rest) (sym (append_assoc pos front (last ∷ []))) ∙ append_assoc (pos ++ front) (last ∷ []) rest)
    ∙ take_at (pos ++ front) ((last ∷ []) ++ rest) (8 + n) size

-- ten times as many numbers have a digit more
pub ten_of : (n : ℕ) → 1 ≤ n → 10 ^ n ≡ 10 ^ (n - 1) * 10
ten_of zero h = absurd (omega arith)
ten_of (suc n) h =
    let less : suc n - 1 ≡ n = omega arith in
    rw less (ten n)

pub next_digit : (n N : ℕ) → Digits n N → N % 10 < 9 → Digits n (N + 1)
next_digit n N c h =
    let more = ten_of n c.some in
    let below = c.below in
    record { some = c.some; few = c.few; below = rw more (omega arith); above = λ a. omega (arith, c.above a) }

pub next_ten : (n N : ℕ) → Digits n N → N % 10 ≡ 9 → N / 10 + 1 < 10 ^ (n - 1) → Digits n (N + 1)
next_ten n N c h small =
    record { some = c.some; few = c.few; below = rw (ten_of n c.some) (omega arith); above = λ a. omega (arith, c.above a) }

pub tenth_below : (n N : ℕ) → Digits n N → N / 10 < 10 ^ (n - 1)
tenth_below n N c =
    let more = ten_of n c.some in
    let below = c.below in
    omega arith

-- ---- a line

low_word : (j : ℕ) → j < 10 → little 8 (7953766455951237168 + j) ≡ (48 + j) ∷ codes " distan"
unfolding little codes
low_word j h =
    let low : (7953766455951237168 + j) % 256 ≡ 48 + j = omega arith in
    let high : (7953766455951237168 + j) / 256 ≡ 31069400218559520 = omega arith in
    rw (low, high)

middle : little 4 544433507 ≡ codes "ces "
unfolding little codes
middle = refl

high_word : (d e : ℕ) → d < 10 → e < 10 → little 4 (170926128 + (d + 65536 * e)) ≡ (48 + d) ∷ 32 ∷ (48 + e) ∷ 10 ∷ []
unfolding little
high_word d e hd he =
    let a : (170926128 + (d + 65536 * e)) % 256 ≡ 48 + d = omega arith in
    let b : (170926128 + (d + 65536 * e)) / 256 ≡ 667680 + 256 * e = omega arith in
    let f : (667680 + 256 * e) % 256 ≡ 32 = omega arith in
    let g : (667680 + 256 * e) / 256 ≡ 2608 + e = omega arith in
    let h : (2608 + e) % 256 ≡ 48 + e = omega arith in
    let i : (2608 + e) / 256 ≡ 10 = omega arith in
    rw (a, b, f, g, h, i)

pub line_is : (text : List ℕ) (n w N d e : ℕ) → Ready text n w N → d < 10 → e < 10
    → line (met N d e) ≡ take (8 + n) text ++ (little 8 w ++ (little 4 544433507 ++ little 4 (170926128 + (d + 65536 * e))))
unfolding codes
line_is text n w N d e ready hd he =
    let front = digits 10 (n - 1) (N / 10) in
    rw (
      decimal_is n N ready.count,
      front_and_last n N ready.count.some,
      one_digit d hd,
      one_digit e he,
      ready.head,
      ready.tail,
      low_word (N % 10)
          (omega arith),
      middle,
      high_word d e hd he,
    )
    (rw (append_assoc front, append_assoc (codes "position ") front))

-- ---- the moves

pub word_put : {out : List ℕ} {r : ℕ} (b : List ℕ) (at w n : ℕ) → out ≡ paste b at (little n w) n → at + n ≡ r → at + n ≤ length b
    → Wrote b at (little n w) out r
word_put b at w n e m room = rw (e, ← m) (pasted b at (little n w) n (omega (arith, length_little n w)))

module _ (b t : List ℕ) (at n : ℕ) (few : n ≤ 20) (long : 48 ≤ length t) (room : at + 44 ≤ length b) where
  abbrev one : List ℕ
  one = paste b at t 24

  abbrev two : List ℕ
  two = paste one (at + n) (drop n t) 8

  length_one : length one ≡ length b
  length_one = length-paste b at t 24 (omega arith) (omega arith)

  rest : length (drop n t) ≡ length t - n
  rest = length-drop n t

  pub length_two : length (paste (paste b at t 24) (at + n) (drop n t) 8) ≡ length b
  length_two = length-paste one (at + n) (drop n t) 8 (omega (arith, length_one)) (omega (arith, rest)) ∙ length_one

  -- before the tail stands the text
  pub before_tail : take (at + n + 8) (paste (paste b at t 24) (at + n) (drop n t) 8) ≡ take at b ++ take (8 + n) t
  before_tail =
      let short : length (take at b) ≡ at = length-take-le at b (omega arith) in
      let all : n + 8 ≡ 8 + n = omega arith in
      let part : take (at + n) one ≡ take at b ++ take n t =
      sym (take-take (at + n) (at + 24) one (omega arith)) ∙ ap (take (at + n)) (take-paste b at t 24 (omega arith) (omega arith))
      ∙ ap (λ (k : ℕ). take (k + n) (take at b ++ take 24 t)) (sym short) ∙ take-append-add (take at b) (take 24 t) n
      ∙ ap (λ (l : List ℕ). take at b ++ l) (take-take n 24 t (omega arith))
      in
      take-paste one (at + n) (drop n t) 8 (omega (arith, length_one)) (omega (arith, rest))
      ∙ ap (λ (l : List ℕ). l ++ take 8 (drop n t)) part ∙ append_assoc (take at b) (take n t) (take 8 (drop n t))
      ∙ ap (λ (l : List ℕ). take at b ++ l) (sym (take-add n 8 t) ∙ ap (λ (k : ℕ). take k t) all)

  -- behind it nothing has changed
  pub behind_tail : drop (at + n + 8 + 16) (paste (paste b at t 24) (at + n) (drop n t) 8) ≡ drop (at + n + 8 + 16) b
  behind_tail =
      let same : at + n + 8 + 16 ≡ at + 24 + n = omega arith in
      sym (drop-drop 16 (at + n + 8) two) ∙ ap (drop 16) (drop-paste one (at + n) (drop n t) 8 (omega (arith, length_one)) (omega (arith, rest)))
      ∙ drop-drop 16 (at + n + 8) one
      ∙ ap (λ (k : ℕ). drop k one) same ∙ sym (drop-drop n (at + 24) one) ∙ ap (drop n) (drop-paste b at t 24 (omega arith) (omega arith))
      ∙ drop-drop n (at + 24) b
      ∙ ap (λ (k : ℕ). drop k b) (sym same)

-- a text whose end was put where its start stands already
pub ended : {two five : List ℕ} {r : ℕ} (b x y : List ℕ) (at m : ℕ) → Wrote two m y five r → m ≡ at + length x → take m two ≡ take at b ++ x
    → drop (m + length y) two ≡ drop (m + length y) b
    → length two ≡ length b → m + length y ≤ length b → Wrote b at (x ++ y) five r
unfolding written
ended {two} {five} {r} b x y at m p place start end size room =
    let sum = length-append x y in
    let fits : take (length two - m) y ≡ y = take_all (length two - m) y (omega arith) in
    let all : take (length b - at) (x ++ y) ≡ x ++ y = take_all (length b - at) (x ++ y) (omega arith) in
    let last : at + length (x ++ y) ≡ m + length y = omega arith in
    record {
      next = p.next ∙ rw (fits, all, last);
      is = p.is ∙ rw (fits, all, last, start, end)
          (append_assoc (take at b) x (y ++ drop (m + length y) b) ∙ ap (λ (l : List ℕ). take at b ++ l) (sym (append_assoc x y (drop (m + length y) b))));
    }

-- The moves together. What the first two bring is `two`; `three`, `four` and `five` have a word more each.
module _ (b t two three four five : List ℕ) (at n w code : ℕ) (few : n ≤ 20) (long : 48 ≤ length t) (room : at + 44 ≤ length b)
    (is-two : two ≡ paste (paste b at t 24) (at + n) (drop n t) 8) (is-three : three ≡ paste two (at + 8 + n) (little 8 w) 8)
    (is-four : four ≡ paste three (at + 16 + n) (little 4 544433507) 4) (is-five : five ≡ paste four (at + 20 + n) (little 4 (170926128 + code)) 4) where
  abbrev tail : List ℕ
  tail = little 8 w ++ (little 4 544433507 ++ little 4 (170926128 + code))

  length_tail : length tail ≡ 16
  length_tail = simp (length-append, length_little) (omega arith)

  size_two : length two ≡ length b
  size_two = ap length is-two ∙ length_two b t at n few long room

  size_three : length three ≡ length b
  size_three = ap length is-three ∙ length-paste two (at + 8 + n) (little 8 w) 8 (omega (arith, size_two)) (omega (arith, length_little 8 w)) ∙ size_two

  size_four : length four ≡ length b
  size_four = ap length is-four ∙ length-paste three (at + 16 + n) (little 4 544433507) 4 (omega (arith, size_three))
      (omega (arith, length_little 4 544433507)) ∙ size_three

  put_tail : Wrote two (at + 8 + n) tail five (at + 24 + n)
  put_tail =
      then (word_put two (at + 8 + n) w 8 is-three (omega arith) (omega (arith, size_two)))
      (then (word_put three (at + 16 + n) 544433507 4 is-four (omega arith) (omega (arith, size_three)))
      (word_put four (at + 20 + n) (170926128 + code) 4 is-five (omega arith) (omega (arith, size_four))))

  put_all : Wrote b at (take (8 + n) t ++ tail) five (at + 24 + n)
  put_all =
      let before : at + n + 8 ≡ at + 8 + n = omega arith in
      let behind : at + n + 8 + 16 ≡ at + 8 + n + length tail = omega (arith, length_tail) in
      ended b (take (8 + n) t) tail at (at + 8 + n) put_tail (omega (arith, length-take-le (8 + n) t (omega arith)))
      (ap (take (at + 8 + n)) is-two ∙ ap (λ (k : ℕ). take k (paste (paste b at t 24) (at + n) (drop n t) 8)) (sym before) ∙ before_tail b t at n few long room)
      (ap (drop (at + 8 + n + length tail)) is-two ∙ ap (λ (k : ℕ). drop k (paste (paste b at t 24) (at + n) (drop n t) 8)) (sym behind)
      ∙ behind_tail b t at n few long room
      ∙ ap (λ (k : ℕ). drop k b) behind)
      size_two (omega (arith, length_tail))

  pub line_put : (N d e : ℕ) → Ready t n w N → d < 10 → e < 10 → code ≡ d + 65536 * e → Wrote b at (line (met N d e)) five (at + 24 + n)
  line_put N d e ready hd he is =
      said_as (line_is t n w N d e ready hd he ∙ ap (λ (k : ℕ). take (8 + n) t ++ (little 8 w ++ (little 4 544433507 ++ little 4 (170926128 + k))))
      (sym is)) put_all

-- ---- the line of a position, or none

pub told_met : (N code : ℕ) → code < 16777216 → lines (told N code) ≡ line (met N (code % 65536) (code / 65536))
unfolding lines
told_met N code h = rw (lt-ltb code 16777216 h) (append-nil (line (met N (code % 65536) (code / 65536))))

pub one_line : (m : Meeting) → lines (m ∷ []) ≡ line m
unfolding lines
one_line m = append-nil (line m)

pub told_far : (N code : ℕ) → 16777216 ≤ code → lines (told N code) ≡ []
unfolding lines
told_far N code h = rw (le-ltb code 16777216 h)

pub lines_append : (xs ys : List Meeting) → lines (xs ++ ys) ≡ lines xs ++ lines ys
unfolding lines
lines_append [] ys = refl
lines_append (m ∷ ms) ys = rw (lines_append ms ys) (sym (append_assoc (line m) (lines ms) (lines ys)))

pub no_lines : lines [] ≡ []
unfolding lines
no_lines = refl

module _ (codes : List ℕ) where
  pub tolds_none : (i N : ℕ) → lines (tolds codes i N 0) ≡ []
  unfolding tolds lines
  tolds_none i N = refl

  pub tolds_more : (i N n : ℕ) → lines (tolds codes i N (n + 1)) ≡ lines (tolds codes i N n) ++ lines (told (N + n) (get_or codes (i + 32 * n) 0))
  unfolding tolds
  tolds_more i N n = ap (λ (k : ℕ). lines (tolds codes i N k)) (add-one n) ∙ lines_append (tolds codes i N n) (told (N + n) (get_or codes (i + 32 * n) 0))

  pub all_none : (N : ℕ) → lines (all_told codes N 0) ≡ []
  unfolding all_told lines
  all_none N = refl

  pub all_more : (N n : ℕ) → lines (all_told codes N (n + 1)) ≡ lines (all_told codes N n) ++ lines (tolds codes n (N + 8 * n) 8)
  unfolding all_told
  all_more N n = ap (λ (k : ℕ). lines (all_told codes N k)) (add-one n) ∙ lines_append (all_told codes N n) (tolds codes n (N + 8 * n) 8)
