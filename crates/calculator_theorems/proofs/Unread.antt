-- Bytes of a step that no step reads: byte 7, the mark (document 01), and bytes 8 to 15 ("Bytes 8..11 are ignored", document 02, order 2; "12..15 ignored",
-- document 01). Two lists that differ there alone have the same run, from any place under any limit. Of the definition's runs. Assumes nothing.
use mathlib.Core.Path.{◌≡◌, refl, ◌∙◌, ap, sym}
use mathlib.Core.List.{List, ◌++◌}
use Prim.Native.Nat.{ℕ, zero, suc, ◌+◌, ◌-◌, ◌*◌, ◌/◌, ◌%◌, ◌<◌, ◌≤◌}
use native.Mathlib.Omega.{arith}
use lib.ListN.{length, get_or, take, drop, replicate, length-drop}
use lib.Seq.{get_or-take, get_or-drop}
use Rattle.standard.specs.Refusal.{Answer, given, refused}
use Rattle.standard.specs.Instruction.{Instruction, none, memory, const, shuffled, vector₁, vector₂, vector₃, shifted, tested, splatted, extracted, replaced}
use Rattle.standard.specs.Instruction.{instruction}
use Rattle.calculator_rules.specs.Definition.{Machine, Ending, counting, taken_up, bytes, operation, profile, refusal, effect, answer, step, after, steps, run}

-- Lists of one length, with the same byte at each place but bytes 7 to 15 of a step.
pub record UnreadApart (a b : List ℕ) : Type 0 where
  pub long : length a ≡ length b
  pub same : (i : ℕ) → (7 ≤ i % 32 → i % 32 ≤ 15 → ⊥) → get_or a i 0 ≡ get_or b i 0

-- a step with zeros there
cleared : List ℕ → List ℕ
cleared s = bytes s 0 7 ++ (replicate 9 0 ++ bytes s 16 16)

same_effect : (i : Instruction) (place : ℕ) (m : Machine) (s : List ℕ) → effect i place m s ≡ effect i place m (cleared s)
unfolding effect cleared
same_effect none place m s = refl
same_effect memory place m s = refl
same_effect const place m s = refl
same_effect shuffled place m s = refl
same_effect (vector₁ f) place m s = refl
same_effect (vector₂ f) place m s = refl
same_effect (vector₃ f) place m s = refl
same_effect (shifted f) place m s = refl
same_effect (tested f) place m s = refl
same_effect (splatted k f) place m s = refl
same_effect (extracted k w f) place m s = refl
same_effect (replaced k w f) place m s = refl

same_step : (place : ℕ) (m : Machine) (s : List ℕ) → step place m s ≡ step place m (cleared s)
unfolding step refusal cleared
same_step place m s =
    ap (λ (n : Machine). answer (refusal (profile (instruction (operation s))) m.kind s) n) (same_effect (instruction (operation s)) place m s)

same_bytes : (a b : List ℕ) (at n : ℕ) → ((i : ℕ) → at ≤ i → i < at + n → get_or a i 0 ≡ get_or b i 0) → bytes a at n ≡ bytes b at n
same_bytes a b at zero h = refl
same_bytes a b at (suc n) h =
    rw (h at (omega arith) (omega arith), same_bytes a b (suc at) n (λ i l u. h i (omega arith) (omega arith)))

around : {x y z w : List ℕ} → x ≡ y → z ≡ w → x ++ (replicate 9 0 ++ z) ≡ y ++ (replicate 9 0 ++ w)
around e f = rw (e, f)

step_alike : (place : ℕ) (m : Machine) (a b : List ℕ) → UnreadApart a b → step place m (take 32 a) ≡ step place m (take 32 b)
unfolding cleared
step_alike place m a b apart =
    let at : (i : ℕ) → i < 32 → (7 ≤ i → i ≤ 15 → ⊥) → get_or (take 32 a) i 0 ≡ get_or (take 32 b) i 0 =
    λ i l n. rw (get_or-take, get_or-take) (apart.same i (λ p q. n (omega arith) (omega arith))) in
    let e : cleared (take 32 a) ≡ cleared (take 32 b) =
    around (same_bytes (take 32 a) (take 32 b) 0 7 (λ i l u. at i (omega arith) (λ p q. omega arith)))
    (same_bytes (take 32 a) (take 32 b) 16 16 (λ i l u. at i (omega arith) (λ p q. omega arith))) in
    same_step place m (take 32 a) ∙ ap (step place m) e ∙ sym (same_step place m (take 32 b))

rest_alike : (a b : List ℕ) (k : ℕ) → UnreadApart a b → UnreadApart (drop (32 * k) a) (drop (32 * k) b)
rest_alike a b k apart =
    record {
      long = simp length-drop (omega (arith, apart.long));
      same = λ i n. rw (get_or-drop, get_or-drop) (apart.same (32 * k + i) (λ p q. n (omega arith) (omega arith)));
    }

next_alike : (x : Answer Machine) (f g : Machine → Ending) (stop : ℕ → Ending) → ((n : Machine) → f n ≡ g n) → after x f stop ≡ after x g stop
next_alike (given n) f g stop h = h n
next_alike (refused k) f g stop h = refl

steps_alike : (left limit place : ℕ) (a b : List ℕ) → UnreadApart a b → (m : Machine) → steps left limit place a m ≡ steps left limit place b m
unfolding steps
steps_alike zero limit place a b apart m = refl
steps_alike (suc left) zero place a b apart m = refl
steps_alike (suc left) (suc limit) place a b apart m =
    rw (step_alike place m a b apart)
    (next_alike (step place m (take 32 b)) _ _ _ (λ n. ap (counting 1) (steps_alike left limit (suc place) (drop 32 a) (drop 32 b) (rest_alike a b 1 apart) n)))

pub unread_unseen : (a b : List ℕ) → UnreadApart a b → (place limit : ℕ) (m : Machine) → run a place limit m ≡ run b place limit m
unfolding run
unread_unseen a b apart place limit m =
    rw (
      apart.long,
      steps_alike (length b / 32 - place) limit place (drop (32 * place) a) (drop (32 * place) b) (rest_alike a b place apart)
          (taken_up place m),
    )
