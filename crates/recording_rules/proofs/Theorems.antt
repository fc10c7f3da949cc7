-- Whatever the recorder writes, the replay answers "agrees", for every list. Assumes nothing.
use mathlib.Core.Path.{◌≡◌, refl, sym, ap, ap₂, ◌∙◌, subst}
use mathlib.Core.Bool.{Bool, true, false, cond, ◌||◌, true≢false}
use mathlib.Core.List.{List, [], ◌∷◌, ◌++◌}
use Prim.Native.Nat.{ℕ, zero, suc, ◌+◌, ◌*◌, ◌/◌, ◌%◌, ◌≤◌, ◌<◌}
use native.Mathlib.Nat.{not-suc-le-zero, add-zero, zero-add}
use native.Mathlib.Omega.{arith}
use borrow.Author.Tests.{eq-eqb, ne_eqb, le-leb, leb-true, eqb-true, eqb-false}
use lib.Dec.{leb, eqb, eqb-suc-suc}
use lib.ListN.{length, get_or, take, drop, replicate, length-append, length-drop}
use lib.Seq.{take_at, drop_at, drop-drop, get_or-append-add, length-take-le}
use Rattle.standard.specs.Refusal as calculator
use Rattle.standard.specs.Refusal.{given}
use Rattle.standard.specs.Lanes.{digits}
use Rattle.standard.specs.Instruction.{Kind, kind_number, i32, i64, f32, f64}
use Rattle.calculator_rules.specs.Definition.{Machine, start, step, whole_steps, list_refusal}
use Rattle.calculator_rules.proofs.Judged.{one}
use Rattle.recording_fields.specs.Definition.{wide, trace, agrees}
use Rattle.recording_fields.proofs.Words.{length_trace, same_refl}
use Rattle.recording_layout.specs.Definition.{part, all_zero, record_laid, record_at, Judged}
use Rattle.recording_packing.specs.Definition.{blocks_for, packed, fits, standing, sealed_into}
use Rattle.recording_packing.proofs.Blocks.{length_packed, fitting}
use Rattle.recording_packing.proofs.Laid.{nth, Lawful, judged_packed, found}
use Rattle.recording_rules.specs.Definition as definition
use Rattle.recording_rules.specs.Definition.{written, left_by, trace_of, going_on, next, replay_from, replay, further, records_from, records_of, Recorded}
use Rattle.recording_rules.specs.Definition.{wrote, empty, short, rejected}

-- ---- a record by the rules of the layout

known_kind : (k : Kind) → kind_number k ≤ 3
known_kind i32 = omega arith
known_kind i64 = omega arith
known_kind f32 = omega arith
known_kind f64 = omega arith

module _ (s : List ℕ) (step_long : length s ≡ 32) (v n k b : ℕ) where
  t : List ℕ
  t = trace v n k b

  byte : (i j : ℕ) → 32 + i ≡ j → get_or (s ++ t) j 0 ≡ get_or t i 0
  byte i j e = ap (λ (m : ℕ). get_or (s ++ t) m 0) (sym e ∙ ap (λ (m : ℕ). m + i) (sym step_long)) ∙ get_or-append-add s t i 0

  after : (i j : ℕ) → 32 + i ≡ j → drop j (s ++ t) ≡ drop i t
  after i j e = ap (λ (m : ℕ). drop m (s ++ t)) (sym e) ∙ sym (drop-drop i 32 (s ++ t)) ∙ ap (drop i) (drop_at s t 32 step_long)

  gap : all_zero (part 50 56 (s ++ t)) ≡ true
  unfolding t trace all_zero
  gap = ap (λ (l : List ℕ). all_zero (take 6 l)) (after 18 50 refl)

  upper : (wide k || all_zero (part 60 64 (s ++ t))) ≡ true
  unfolding t trace all_zero
  upper = ap (λ (l : List ℕ). wide k || all_zero (take 4 l)) (after 28 60 refl) ∙ of (wide k)
    where
      of : (w : Bool) → (w || all_zero (take 4 (drop 28
          (digits 8 16 v ++ (n ∷ k ∷ replicate 6 0) ++ cond w (digits 8 8 b) (digits 8 4 b ++ replicate 4 0))))) ≡ true
      of true = refl
      of false = refl

  pub laid_trace : (is_last : Bool) → k ≤ 3 → (is_last || eqb n 0) ≡ true → record_laid is_last (s ++ trace v n k b) ≡ true
  unfolding t trace record_laid
  laid_trace is_last h e =
      rw (byte 16 48 refl, byte 17 49 refl) (rw (e, le-leb k 3 h, gap) upper)

-- ---- the records of a run

-- how many there are
abbrev many_after : calculator.Answer Machine → (Machine → ℕ) → ℕ
many_after (calculator.given m) go = go m
many_after (calculator.refused n) go = 0

many : ℕ → ℕ → List ℕ → Machine → ℕ
many zero place list m = 0
many (suc left) place list m = suc (many_after (step place m (take 32 list)) (λ next. many left (suc place) (drop 32 list) next))

-- one record before others
module _ (s t rest : List ℕ) (ls : length s ≡ 32) (lt : length t ≡ 32) where
  both : length (s ++ t) ≡ 64
  both = length-append s t ∙ ap₂ ◌+◌ ls lt

  first : nth (s ++ t ++ rest) 0 ≡ s ++ t
  first = take_at (s ++ t) rest 64 both

  later : (i : ℕ) → nth (s ++ t ++ rest) (suc i) ≡ nth rest i
  later i =
      ap (take 64)
      (ap (λ (n : ℕ). drop n (s ++ t ++ rest)) (let e : 64 * suc i ≡ 64 + 64 * i = omega arith in e)
      ∙ sym (drop-drop (64 * i) 64 (s ++ t ++ rest)) ∙ ap (drop (64 * i)) (drop_at (s ++ t) rest 64 both))

-- M records from a place on, by the rules of the layout, with which a replay agrees wherever they stand
record Recordable (left place : ℕ) (m : Machine) (M : ℕ) (rs : List ℕ) : Type 0 where
  long : length rs ≡ 64 * M
  most : M ≤ left
  each : (i : ℕ) → i < M → record_laid (eqb (i + 1) M) (nth rs i) ≡ true
  agree : (file : List ℕ) → ((i : ℕ) → i < M → record_at file (place + i) ≡ nth rs i) → replay_from M place file m ≡ agrees

-- one record more in front
module _ (left place : ℕ) (m : Machine) (s : List ℕ) (ls : length s ≡ 32) (lt : length (trace_of place m s) ≡ 32)
    (M : ℕ) (rest : List ℕ) (here : record_laid (eqb 1 (suc M)) (s ++ trace_of place m s) ≡ true)
    (others : Recordable left (suc place) (next place m s) M rest) where
  abbrev u : List ℕ
  u = trace_of place m s

  each : (i : ℕ) → i < suc M → record_laid (eqb (i + 1) (suc M)) (nth (s ++ u ++ rest) i) ≡ true
  each zero h = ap (record_laid (eqb 1 (suc M))) (first s u rest ls lt) ∙ here
  each (suc i) h =
      ap₂ record_laid (ap (λ (n : ℕ). eqb n (suc M)) (let p : suc i + 1 ≡ suc (i + 1) = omega arith in p) ∙ eqb-suc-suc (i + 1) M) (later s u rest ls lt i)
      ∙ others.each i (omega arith)

  agree : (file : List ℕ) → ((i : ℕ) → i < suc M → record_at file (place + i) ≡ nth (s ++ u ++ rest) i) → replay_from (suc M) place file m ≡ agrees
  unfolding replay_from
  agree file f =
      let r : record_at file place ≡ s ++ u = ap (record_at file) (sym (add-zero place)) ∙ f 0 (omega arith) ∙ first s u rest ls lt in
      rw (r, take_at s u 32 ls, drop_at s u 32 ls, same_refl u)
      (others.agree file (λ i h. ap (record_at file) (let p : suc place + i ≡ place + suc i = omega arith in p) ∙ f (suc i) (omega arith)
      ∙ later s u rest ls lt i))

  in_front : Recordable (suc left) place m (suc M) (s ++ trace_of place m s ++ rest)
  in_front =
      record {
        long = length-append (s ++ u) rest ∙ ap₂ ◌+◌ (both s u rest ls lt) others.long ∙ (let p : 64 + 64 * M ≡ 64 * suc M = omega arith in p);
        most = let h = others.most in omega arith;
        each = each;
        agree = agree;
      }

none : (left place : ℕ) (m : Machine) → Recordable left place m 0 []
unfolding replay_from
none left place m = record { long = refl; most = omega arith; each = λ i h. absurd (not-suc-le-zero h); agree = λ file f. refl }

or_true : (b : Bool) → (b || true) ≡ true
or_true true = refl
or_true false = refl

recordable : (left place : ℕ) (list : List ℕ) (m : Machine) → 32 * left ≤ length list
    → Recordable left place m (many left place list m) (records_from left place list m)
unfolding records_from many trace_of next
recordable zero place list m h = none 0 place m
recordable (suc left) place list m h =
    go (step place m (take 32 list)) refl (λ after. recordable left (suc place) (drop 32 list) after (simp length-drop (omega arith)))
  where
    s : List ℕ
    s = take 32 list

    ls : length s ≡ 32
    ls = length-take-le 32 list (omega arith)

    go : (a : calculator.Answer Machine) → step place m (take 32 list) ≡ a
        → ((after : Machine) → Recordable left (suc place) after (many left (suc place) (drop 32 list) after)
        (records_from left (suc place) (drop 32 list) after))
        → Recordable (suc left) place m (suc (many_after a (λ next. many left (suc place) (drop 32 list) next)))
        (take 32 list ++ trace_of place m (take 32 list) ++ further a (λ next. records_from left (suc place) (drop 32 list) next))
    go (calculator.given after) e ih =
        let traced : trace_of place m s ≡ trace (written s after) 0 (kind_number after.kind) after.bits = ap (left_by s m) e in
        in_front left place m s ls (ap length traced ∙ length_trace (written s after) 0 (kind_number after.kind) after.bits) _ _
        (ap (λ (t : List ℕ). record_laid (eqb 1 (suc (many left (suc place) (drop 32 list) after))) (s ++ t)) traced
        ∙ laid_trace s ls (written s after) 0 (kind_number after.kind) after.bits (eqb 1 (suc (many left (suc place) (drop 32 list) after)))
        (known_kind after.kind) (or_true (eqb 1 (suc (many left (suc place) (drop 32 list) after)))))
        (subst (λ (x : Machine). Recordable left (suc place) x (many left (suc place) (drop 32 list) after)
        (records_from left (suc place) (drop 32 list) after)) (sym (ap (going_on m) e)) (ih after))
    go (calculator.refused n) e ih =
        let traced : trace_of place m s ≡ trace 0 n (kind_number m.kind) m.bits = ap (left_by s m) e in
        in_front left place m s ls (ap length traced ∙ length_trace 0 n (kind_number m.kind) m.bits) 0 []
        (ap (λ (t : List ℕ). record_laid true (s ++ t)) traced ∙ laid_trace s ls 0 n (kind_number m.kind) m.bits true (known_kind m.kind) refl)
        (none left (suc place) (next place m s))

-- ---- a whole list

some : (left place : ℕ) (list : List ℕ) (m : Machine) → 1 ≤ left → 1 ≤ many left place list m
unfolding many
some zero place list m h = absurd (omega arith)
some (suc left) place list m h = omega arith

pub whole : (n : ℕ) → list_refusal n 0 256 ≡ 0 → (n % 32 ≡ 0) × (n ≤ 8192)
whole n e = of (eqb (n % 32) 0) refl (one (whole_steps n) 0 _ e).0
  where
    of : (t : Bool) → eqb (n % 32) 0 ≡ t → cond t (leb n 8192) false ≡ true → (n % 32 ≡ 0) × (n ≤ 8192)
    of true p q = (eqb-true (n % 32) 0 p, leb-true n 8192 q)
    of false p q = absurd (true≢false (sym q))

few : (n : ℕ) → (n % 32 ≡ 0) × (n ≤ 8192) → (n ≡ 0 → ⊥) → 1 ≤ n / 32
few n w ne = omega arith

-- the replay of a recording answers "agrees"
pub replay_of_recording : (list : List ℕ) → list_refusal (length list) 0 256 ≡ 0 → (length list ≡ 0 → ⊥) → replay (definition.recording list) ≡ agrees
unfolding replay definition.recording records_of
replay_of_recording list e ne =
    let w = whole (length list) e in
    let M = many (length list / 32) 0 list start in
    let rs = records_from (length list / 32) 0 list start in
    let r = recordable (length list / 32) 0 list start (omega arith) in
    let lawful : Lawful M rs = record {
      long = r.long;
      least = some (length list / 32) 0 list start
          (few (length list) w ne);
      most = (let h = r.most in omega arith);
      each = r.each;
    } in
    ap (λ (j : Judged). definition.replay_judged j (packed rs)) (judged_packed M rs lawful)
    ∙ r.agree (packed rs) (λ i h. ap (record_at (packed rs)) (zero-add i) ∙ found M rs lawful i h)

-- ---- the length of a recording

module _ (list : List ℕ) (e : list_refusal (length list) 0 256 ≡ 0) (ne : length list ≡ 0 → ⊥) where
  pub records_fit : (room : ℕ) → fits (length (records_of list)) room ≡ leb (length (definition.recording list)) room
  unfolding definition.recording records_of packed
  records_fit room =
      let w = whole (length list) e in
      let M = many (length list / 32) 0 list start in
      let r = recordable (length list / 32) 0 list start (omega arith) in
      let l = r.long in
      let least = some (length list / 32) 0 list start (few (length list) w ne) in
      let most = r.most in
      let n = length (records_from (length list / 32) 0 list start) in
      rw (
        le-leb n 16384 (omega arith),
        eq-eqb (n % 64) 0 (omega arith),
        le-leb 64 n (omega arith),
        length_packed (blocks_for n) 0
            (records_from (length list / 32) 0 list start),
      )

  -- where a record of every step has room, those of the run have
  pub room_for_all : (room : ℕ) → fits (2 * length list) room ≡ true → fits (length (records_of list)) room ≡ true
  unfolding records_of
  room_for_all room f =
      let w = whole (length list) e in
      let M = many (length list / 32) 0 list start in
      let r = recordable (length list / 32) 0 list start (omega arith) in
      let l = r.long in
      let least = some (length list / 32) 0 list start (few (length list) w ne) in
      let most = r.most in
      let all = fitting (2 * length list) room f in
      let enough = all.enough in
      let n = length (records_from (length list / 32) 0 list start) in
      rw (le-leb n 16384 (omega arith), eq-eqb (n % 64) 0 (omega arith), le-leb 64 n (omega arith), le-leb (512 * blocks_for n) room (omega arith))

pub length_recording : (list : List ℕ) → length (definition.recording list) ≡ 512 * blocks_for (length (records_of list))
unfolding definition.recording packed
length_recording list = length_packed (blocks_for (length (records_of list))) 0 (records_of list)

-- ---- what is written

-- the answers of the recorder, by its three tests
abbrev answered : List ℕ → List ℕ → Bool → Bool → Bool → Recorded × List ℕ
answered list out a b c =
    cond a (cond b (empty, out) (cond c (
      wrote (length (definition.recording list)),
      definition.recording list
          ++ drop (length (definition.recording list)) out,
    ) (short, out)))
    (rejected (list_refusal (length list) 0 256), out)

-- n bytes are written only of a list that is neither refused nor empty, and they are its recording
record Written (list out : List ℕ) (n : ℕ) (left : List ℕ) : Type 0 where
  accepted : list_refusal (length list) 0 256 ≡ 0
  steps : length list ≡ 0 → ⊥
  room : n ≤ length out
  bytes : take n left ≡ definition.recording list

written_when : (list out : List ℕ) (n : ℕ) → (definition.recorded list out).0 ≡ wrote n → Written list out n (definition.recorded list out).1
unfolding definition.recorded
written_when list out n e = of (eqb (list_refusal (length list) 0 256) 0) (eqb (length list) 0)
    (leb (length (definition.recording list)) (length out)) refl refl refl e
  where
    of : (a b c : Bool) → eqb (list_refusal (length list) 0 256) 0 ≡ a → eqb (length list) 0 ≡ b → leb (length (definition.recording list)) (length out) ≡ c
        → (answered list out a b c).0 ≡ wrote n → Written list out n (answered list out a b c).1
    of true false true p q f g =
        let file = definition.recording list in
        let l : length file ≡ n = cc in
        record {
          accepted = eqb-true (list_refusal (length list) 0 256) 0 p;
          steps = eqb-false (length list) 0 q;
          room = (let h = leb-true (length file) (length out) f in omega arith);
          bytes = take_at file (drop (length file) out) n l;
        }
    of true false false p q f g = let z : ◌≡◌ {A = ℕ} 0 1 = cc in absurd (omega arith)
    of true true c p q f g = let z : ◌≡◌ {A = ℕ} 0 1 = cc in absurd (omega arith)
    of false b c p q f g = let z : ◌≡◌ {A = ℕ} 0 1 = cc in absurd (omega arith)

pub in_room : (list out : List ℕ) (n : ℕ) → (definition.recorded list out).0 ≡ wrote n → n ≤ length out
in_room list out n e = (written_when list out n e).room

-- whatever list and buffer the recorder is given: the replay of the bytes that it wrote answers "agrees"
pub replay_of_written : (list out : List ℕ) (n : ℕ) → (definition.recorded list out).0 ≡ wrote n → replay (take n (definition.recorded list out).1) ≡ agrees
replay_of_written list out n e =
    let w = written_when list out n e in
    ap replay w.bytes ∙ replay_of_recording list w.accepted w.steps

-- ---- the recorder's answers

module _ (list out : List ℕ) where
  pub when_refused : {r : ℕ} → r ≡ list_refusal (length list) 0 256 → (r ≡ 0 → ⊥) → (rejected r, out) ≡ definition.recorded list out
  unfolding definition.recorded
  when_refused {r} e ne =
      let z : eqb (list_refusal (length list) 0 256) 0 ≡ false = ne_eqb (list_refusal (length list) 0 256) 0 (λ p. ne (e ∙ p)) in
      rw z (ap (λ (n : ℕ). (rejected n, out)) e)

  module _ (ok : list_refusal (length list) 0 256 ≡ 0) where
    pub when_empty : length list ≡ 0 → (empty, out) ≡ definition.recorded list out
    unfolding definition.recorded
    when_empty e = rw (eq-eqb (list_refusal (length list) 0 256) 0 ok, eq-eqb (length list) 0 e)

    module _ (ne : length list ≡ 0 → ⊥) where
      -- n records that stand in the buffer, as it was left, and were sealed
      pub when_sealed : (n : ℕ) (left : List ℕ) {after : List ℕ} → fits (length (records_of list)) (length out) ≡ true → length left ≡ length out
          → 64 * n ≡ length (records_of list) → standing n left ≡ records_of list → drop (512 * blocks_for (64 * n)) left ≡ drop (512 * blocks_for (64 * n)) out
          → after ≡ sealed_into n left → (wrote (512 * blocks_for (64 * n)), after) ≡ definition.recorded list out
      unfolding definition.recorded definition.recording
      when_sealed n left {after} t l c s d p =
          let long : 512 * blocks_for (64 * n) ≡ length (definition.recording list) = ap (λ (i : ℕ). 512 * blocks_for i) c ∙ sym (length_recording list) in
          let room : fits (64 * n) (length left) ≡ true = ap₂ fits c l ∙ t in
          let q : after ≡ definition.recording list ++ drop (length (definition.recording list)) out =
          (rw room at p) ∙ ap₂ ◌++◌ (ap packed s) (d ∙ ap (λ (i : ℕ). drop i out) long) in
          rw (eq-eqb (list_refusal (length list) 0 256) 0 ok, ne_eqb (length list) 0 ne, sym (records_fit list ok ne (length out)) ∙ t)
          (ap₂ (λ (i : ℕ) (b : List ℕ). (wrote i, b)) long q)

      pub when_short : fits (length (records_of list)) (length out) ≡ false → (short, out) ≡ definition.recorded list out
      unfolding definition.recorded
      when_short t = rw (eq-eqb (list_refusal (length list) 0 256) 0 ok, ne_eqb (length list) 0 ne, sym (records_fit list ok ne (length out)) ∙ t)
