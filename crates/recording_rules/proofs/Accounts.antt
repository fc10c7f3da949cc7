-- What the code knows of a step is its trace, and the state that goes on; and what is left of a replay and of a run after a record. Assumes nothing.
use mathlib.Core.Path.{◌≡◌, refl, sym, ap, ap₂, ◌∙◌}
use mathlib.Core.Bool.{Bool, true, false, cond, true≢false}
use mathlib.Core.List.{List, [], ◌∷◌, ◌++◌, append_assoc, append-nil}
use Prim.Native.Nat.{ℕ, suc, ◌+◌, ◌-◌, ◌*◌, ◌%◌, ◌≤◌, ◌<◌}
use native.Mathlib.Numerals.{add-one}
use native.Mathlib.Decide.{ℕ_discrete}
use native.Mathlib.Omega.{arith}
use borrow.Author.Tests.{eqb-true, eq-eqb, ne_eqb, leb-true}
use borrow.Rule.Slice.PartMut.{put_mid}
use lib.Dec.{leb, eqb}
use lib.ListN.{length, get_or, take, drop, length-append, length-drop}
use lib.Seq.{drop-drop, length-take-le}
use Rattle.standard.specs.Refusal as calculator
use Rattle.standard.specs.Refusal.{given}
use Rattle.standard.specs.Instruction.{kind_number, instruction}
use Rattle.calculator_rules.specs.Definition.{Machine, Profile, profile, operation, destination, sources, all_registers, used, effect, refusal, step}
use Rattle.calculator_rules.proofs.Judged.{one}
use Rattle.recording_fields.specs.Definition.{trace, Answer, agrees, differs, refused, compared, recorded}
use Rattle.recording_fields.proofs.Words.{length_trace}
use Rattle.recording_layout.specs.Definition.{record_at}
use Rattle.recording_packing.specs.Definition.{blocks_for, standing}
use Rattle.recording_packing.proofs.Standing.{place, one_put, none_behind}
use Rattle.recording_rules.specs.Definition.{written, left_by, trace_of, going_on, next, replay_from, records_from}

-- ---- a step that is not refused names a register where it writes one

last_of : (xs : List ℕ) (d : ℕ) → all_registers (xs ++ (d ∷ [])) ≡ true → d ≤ 15
last_of [] d h = of (leb d 15) refl h
  where
    of : (t : Bool) → leb d 15 ≡ t → cond t true false ≡ true → d ≤ 15
    of true e h = leb-true d 15 e
    of false e h = absurd (true≢false (sym h))
last_of (x ∷ xs) d h = of (leb x 15) h (last_of xs d)
  where
    of : (t : Bool) → cond t (all_registers (xs ++ (d ∷ []))) false ≡ true → (all_registers (xs ++ (d ∷ [])) ≡ true → d ≤ 15) → d ≤ 15
    of true h go = go h
    of false h go = absurd (true≢false (sym h))

module _ (place : ℕ) (m after : Machine) (s : List ℕ) where
  p : Profile
  p = profile (instruction (operation s))

  judged : step place m s ≡ given after → refusal p m.kind s ≡ 0
  unfolding step p
  judged e = of (eqb (refusal (profile (instruction (operation s))) m.kind s) 0) refl e
    where
      of : (t : Bool) → eqb (refusal (profile (instruction (operation s))) m.kind s) 0 ≡ t
          → cond t (given (effect (instruction (operation s)) place m s)) (calculator.refused (refusal (profile (instruction (operation s))) m.kind s))
          ≡ given after
          → refusal (profile (instruction (operation s))) m.kind s ≡ 0
      of true f g = eqb-true _ 0 f
      of false f g = let z : ◌≡◌ {A = ℕ} 0 1 = cc in absurd (omega arith)

  low : step place m s ≡ given after → p.gives_vector ≡ true → destination s % 16 ≡ destination s
  unfolding refusal
  low e v =
      let a = one p.has_step 1 _ (judged e) in
      let b = one (all_registers (used p s)) 2 _ a.1 in
      let h : destination s ≤ 15 = last_of (take p.operands (sources s)) (destination s) (rw v at b.0) in
      omega arith

  same_vector : step place m s ≡ given after → cond p.gives_vector (get_or after.registers (destination s % 16) 0) 0 ≡ written s after
  unfolding p
  same_vector e = of p.gives_vector refl
    where
      of : (t : Bool) → p.gives_vector ≡ t → cond t (get_or after.registers (destination s % 16) 0) 0 ≡ cond t (get_or after.registers (destination s) 0) 0
      of true v = ap (λ (d : ℕ). get_or after.registers d 0) (low e v)
      of false v = refl

-- ---- the trace, and the state that goes on

module _ (place : ℕ) (m after : Machine) (s : List ℕ) (r v k b : ℕ) (answer : cond (eqb r 0) (given after) (calculator.refused r) ≡ step place m s)
    (kept : (r ≡ 0 → ⊥) → after ≡ m)
    (vector : v ≡ cond (eqb r 0) (cond (profile (instruction (operation s))).gives_vector (get_or after.registers (destination s % 16) 0) 0) 0)
    (kind : k ≡ kind_number after.kind) (bits : b ≡ after.bits) where
  done : r ≡ 0 → step place m s ≡ given after
  done e = sym (rw (eq-eqb r 0 e) at answer)

  stopped : (r ≡ 0 → ⊥) → step place m s ≡ calculator.refused r
  stopped e = sym (rw (ne_eqb r 0 e) at answer)

  pub traced : trace v r k b ≡ trace_of place m s
  unfolding trace_of p
  traced = of (ℕ_discrete r 0)
    where
      of : Dec (r ≡ 0) → trace v r k b ≡ left_by s m (step place m s)
      of (yes e) =
          let w : v ≡ written s after = (rw (eq-eqb r 0 e) at vector) ∙ same_vector place m after s (done e) in
          rw (done e, w, e, kind, bits)
      of (no e) =
          let w : v ≡ 0 = (rw (ne_eqb r 0 e) at vector) in
          let q = kept e in
          rw (stopped e, w, kind, bits, q)

  pub goes_on : after ≡ next place m s
  unfolding next
  goes_on = of (ℕ_discrete r 0)
    where
      of : Dec (r ≡ 0) → after ≡ going_on m (step place m s)
      of (yes e) = rw (done e)
      of (no e) = rw (stopped e) (kept e)

one_left : (n at : ℕ) → at < n → n - at ≡ suc (n - (at + 1))
one_left n at h = omega arith

-- ---- what is left of a replay

module _ (n at : ℕ) (file : List ℕ) (m : Machine) where
  pub replay_end : n ≤ at → replay_from (n - at) at file m ≡ agrees
  unfolding replay_from
  replay_end h = let z : n - at ≡ 0 = omega arith in rw z

  module _ (h : at < n) where
    pub replay_turn : compared at (record_at file at) (trace_of at m (take 32 (record_at file at))) ≡ agrees
        → replay_from (n - at) at file m ≡ replay_from (n - (at + 1)) (at + 1) file (next at m (take 32 (record_at file at)))
    unfolding replay_from
    replay_turn e = rw (one_left n at h, e, add-one)

    pub replay_stop : (a : Answer) → compared at (record_at file at) (trace_of at m (take 32 (record_at file at))) ≡ a → (a ≡ agrees → ⊥)
        → replay_from (n - at) at file m ≡ a
    unfolding replay_from
    replay_stop agrees e ne = absurd (ne refl)
    replay_stop (differs k) e ne = rw (one_left n at h, e)
    replay_stop (refused k) e ne = rw (one_left n at h, e)

-- ---- what is left of a run

module _ (n at : ℕ) (list front : List ℕ) (m : Machine) where
  pub run_end : n ≤ at → front ++ records_from (n - at) at (drop (32 * at) list) m ≡ front
  unfolding records_from
  run_end h = let z : n - at ≡ 0 = omega arith in rw z (append-nil front)

  module _ (h : at < n) where
    pub run_turn : (after : Machine) → step at m (take 32 (drop (32 * at) list)) ≡ given after
        → front ++ records_from (n - at) at (drop (32 * at) list) m
        ≡ front ++ (take 32 (drop (32 * at) list) ++ trace_of at m (take 32 (drop (32 * at) list)))
        ++ records_from (n - (at + 1)) (at + 1) (drop (32 * (at + 1)) list) after
    unfolding records_from
    run_turn after e =
        let d : drop 32 (drop (32 * at) list) ≡ drop (32 * (at + 1)) list =
        drop-drop 32 (32 * at) list ∙ ap (λ (i : ℕ). drop i list) (let q : 32 * at + 32 ≡ 32 * (at + 1) = omega arith in q) in
        rw (one_left n at h, e, d, add-one) (sym (append_assoc front (take 32 (drop (32 * at) list) ++ trace_of at m (take 32 (drop (32 * at) list)))
        (records_from (n - suc at) (suc at) (drop (32 * suc at) list) after)))

    pub run_stop : (k : ℕ) → step at m (take 32 (drop (32 * at) list)) ≡ calculator.refused k
        → front ++ records_from (n - at) at (drop (32 * at) list) m ≡ front ++ (take 32 (drop (32 * at) list) ++ trace_of at m (take 32 (drop (32 * at) list)))
    unfolding records_from
    run_stop k e = rw (one_left n at h, e) (ap (λ (t : List ℕ). front ++ t)
        (append-nil (take 32 (drop (32 * at) list) ++ trace_of at m (take 32 (drop (32 * at) list)))))

length_trace_of : (place : ℕ) (m : Machine) (s : List ℕ) → length (trace_of place m s) ≡ 32
unfolding trace_of
length_trace_of place m s = of (step place m s)
  where
    of : (a : calculator.Answer Machine) → length (left_by s m a) ≡ 32
    of (calculator.given after) = length_trace (written s after) 0 (kind_number after.kind) after.bits
    of (calculator.refused n) = length_trace 0 n (kind_number m.kind) m.bits

-- a step of the list, and how long what is left of the run is
module _ (n at : ℕ) (list : List ℕ) (m : Machine) (h : at < n) (enough : 32 * n ≤ length list) where
  same_step : take (32 * at + 32 - 32 * at) (drop (32 * at) list) ≡ take 32 (drop (32 * at) list)
  same_step = ap (λ (k : ℕ). take k (drop (32 * at) list)) (let q : 32 * at + 32 - 32 * at ≡ 32 = omega arith in q)

  step_long : length (take 32 (drop (32 * at) list)) ≡ 32
  step_long = length-take-le 32 (drop (32 * at) list) (simp length-drop (omega arith))

  record_long : length (take 32 (drop (32 * at) list) ++ trace_of at m (take 32 (drop (32 * at) list))) ≡ 64
  record_long = length-append (take 32 (drop (32 * at) list)) (trace_of at m (take 32 (drop (32 * at) list)))
      ∙ ap₂ ◌+◌ step_long (length_trace_of at m (take 32 (drop (32 * at) list)))

  module _ (r : ℕ) (after : Machine) (answer : cond (eqb r 0) (given after) (calculator.refused r)
      ≡ step at m (take (32 * at + 32 - 32 * at) (drop (32 * at) list))) where
    here : cond (eqb r 0) (given after) (calculator.refused r) ≡ step at m (take 32 (drop (32 * at) list))
    here = answer ∙ ap (step at m) same_step

    given_here : r ≡ 0 → step at m (take 32 (drop (32 * at) list)) ≡ given after
    given_here z = sym (rw (eq-eqb r 0 z) at here)

    refused_here : (r ≡ 0 → ⊥) → step at m (take 32 (drop (32 * at) list)) ≡ calculator.refused r
    refused_here z = sym (rw (ne_eqb r 0 z) at here)

    pub count_more : r ≡ 0
        → 64 * (at + 1) + length (records_from (n - (at + 1)) (at + 1) (drop (32 * (at + 1)) list) after)
        ≡ 64 * at + length (records_from (n - at) at (drop (32 * at) list) m)
    count_more z =
        let rest = records_from (n - (at + 1)) (at + 1) (drop (32 * (at + 1)) list) after in
        omega (
          arith,
          record_long,
          ap length (run_turn n at list [] m h after (given_here z)),
          length-append
              (take 32 (drop (32 * at) list) ++ trace_of at m (take 32 (drop (32 * at) list))) rest,
        )

    pub count_last : (r ≡ 0 → ⊥) → 64 * (at + 1) ≡ 64 * at + length (records_from (n - at) at (drop (32 * at) list) m)
    count_last z = omega (arith, record_long, ap length (run_stop n at list [] m h r (refused_here z)))

  some_left : 64 ≤ length (records_from (n - at) at (drop (32 * at) list) m)
  some_left = of (step at m (take 32 (drop (32 * at) list))) refl
    where
      of : (a : calculator.Answer Machine) → step at m (take 32 (drop (32 * at) list)) ≡ a → 64 ≤ length (records_from (n - at) at (drop (32 * at) list) m)
      of (given after) e =
          let rest = records_from (n - (at + 1)) (at + 1) (drop (32 * (at + 1)) list) after in
          omega (
            arith,
            record_long,
            ap length (run_turn n at list [] m h after e),
            length-append
                (take 32 (drop (32 * at) list) ++ trace_of at m (take 32 (drop (32 * at) list))) rest,
          )
      of (calculator.refused k) e = omega (arith, record_long, ap length (run_stop n at list [] m h k e))

  -- a buffer that has room for the blocks of all records has the place of the next
  pub has_place : (all : ℕ) → 64 * at + length (records_from (n - at) at (drop (32 * at) list) m) ≡ all → (room : ℕ) → 512 * blocks_for all ≤ room
      → place at + 64 ≤ room
  has_place all e room k = omega (arith, some_left)

-- the length of what is left at the end
pub count_end : (n at : ℕ) (list : List ℕ) (m : Machine) → n ≤ at → 64 * at ≡ 64 * at + length (records_from (n - at) at (drop (32 * at) list) m)
count_end n at list m h = omega (arith, ap length (run_end n at list [] m h))

-- a step of the list with its trace, at the next place
module _ (n at : ℕ) (list out : List ℕ) (m : Machine) (h : at < n) (room : place at + 64 ≤ length out) (enough : 32 * n ≤ length list) (t y : List ℕ)
    (e : t ≡ trace_of at m (take (32 * at + 32 - 32 * at) (drop (32 * at) list)))
    (p : y ≡ recorded (take (place at + 64 - place at) (drop (place at) out)) (take (32 * at + 32 - 32 * at) (drop (32 * at) list)) t) where
  place_long : length (take (place at + 64 - place at) (drop (place at) out)) ≡ 64
  place_long = length-take-le (place at + 64 - place at) (drop (place at) out) (simp length-drop (omega arith))
      ∙ (let q : place at + 64 - place at ≡ 64 = omega arith in q)

  is_record : y ≡ take 32 (drop (32 * at) list) ++ trace_of at m (take 32 (drop (32 * at) list))
  is_record =
      p ∙ rw (same_step n at list m h enough, eq-eqb _ _ place_long, eq-eqb _ _ (step_long n at list m h enough))
      (ap (λ (l : List ℕ). take 32 (drop (32 * at) list) ++ l) (e ∙ ap (trace_of at m) (same_step n at list m h enough)))

  long : length y ≡ 64
  long = ap length is_record ∙ record_long n at list m h enough

  front : standing (at + 1) (put_mid (place at) (place at + 64 - place at) out y) ≡ standing at out
      ++ (take 32 (drop (32 * at) list) ++ trace_of at m (take 32 (drop (32 * at) list)))
  front = one_put at out y room long ∙ ap (λ (l : List ℕ). standing at out ++ l) is_record

  pub as_before : (out₀ : List ℕ) → drop (512 * blocks_for (64 * at)) out ≡ drop (512 * blocks_for (64 * at)) out₀
      → drop (512 * blocks_for (64 * (at + 1))) (put_mid (place at) (place at + 64 - place at) out y) ≡ drop (512 * blocks_for (64 * (at + 1))) out₀
  as_before = none_behind at out y room long

  module _ (r : ℕ) (after : Machine) (answer : cond (eqb r 0) (given after) (calculator.refused r)
      ≡ step at m (take (32 * at + 32 - 32 * at) (drop (32 * at) list))) where
    pub one_more : r ≡ 0
        → standing (at + 1) (put_mid (place at) (place at + 64 - place at) out y) ++ records_from (n - (at + 1)) (at + 1) (drop (32 * (at + 1)) list) after
        ≡ standing at out ++ records_from (n - at) at (drop (32 * at) list) m
    one_more z =
        ap (λ (l : List ℕ). l ++ records_from (n - (at + 1)) (at + 1) (drop (32 * (at + 1)) list) after) front
        ∙ sym (run_turn n at list (standing at out) m h after (given_here n at list m h enough r after answer z))

    pub last_one : (r ≡ 0 → ⊥) → standing (at + 1) (put_mid (place at) (place at + 64 - place at) out y) ≡ standing at out
        ++ records_from (n - at) at (drop (32 * at) list) m
    last_one z = front ∙ sym (run_stop n at list (standing at out) m h r (refused_here n at list m h enough r after answer z))
