-- Of the judge's tests: one turn over the shuffle indices, and registers one after the other. Assumes nothing.
use mathlib.Core.Path.{◌≡◌, refl, ap, ◌∙◌}
use mathlib.Core.Bool.{Bool, true, false, cond}
use mathlib.Core.List.{List, [], ◌∷◌}
use Prim.Native.Nat.{ℕ, suc, ◌+◌, ◌-◌, ◌<◌}
use native.Mathlib.Numerals.{add-one}
use native.Mathlib.Omega.{arith}
use lib.ListN.{get_or}
use lib.Dec.{ltb, leb}
use borrow.Author.Tests.{lt-ltb}
use Rattle.standard.specs.Instruction.{Kind}
use Rattle.standard.specs.Refusal.{legal}
use Rattle.calculator_rules.specs.Shape.{profile_of}
use Rattle.calculator_rules.specs.declared.shape.Shape.{Shape}
use Rattle.calculator_rules.specs.Definition.{Profile, bytes, lane, indices, used, all_registers, right_kind, unless, refusal}

pub turn : (s : List ℕ) (i : ℕ) → i < 32 → legal (bytes s i (32 - i)) ≡ cond (leb (get_or s i 0) 31) (legal (bytes s (i + 1) (32 - (i + 1)))) false
turn s i h =
    let e : 32 - i ≡ suc (32 - (i + 1)) = omega arith in
    rw (e, add-one)

-- a test that passes, and what it says of the later ones
pub one : (ok : Bool) (n later : ℕ) → unless ok (suc n) later ≡ 0 → (ok ≡ true) × (later ≡ 0)
one true n later h = (refl, h)
one false n later h = absurd (let z : ◌≡◌ {A = ℕ} (suc n) 0 = h in omega arith)

-- registers one after the other, then what the later tests say
abbrev pub through : List ℕ → ℕ → ℕ
through [] later = later
through (r ∷ rs) later = unless (leb r 15) 3 (through rs later)

both : (a b : Bool) (n later : ℕ) → unless (cond a b false) n later ≡ unless a n (unless b n later)
both true b n later = refl
both false b n later = refl

all_through : (rs : List ℕ) (later : ℕ) → unless (all_registers rs) 3 later ≡ through rs later
all_through [] later = refl
all_through (r ∷ rs) later = both (leb r 15) (all_registers rs) 3 later ∙ ap (unless (leb r 15) 3) (all_through rs later)

in_order : (p : Profile) (k : Kind) (s : List ℕ) → p.has_step ≡ true → refusal p k s
    ≡ through (used p s) (unless (ltb (lane s) p.lane_count) 4
    (unless (cond p.shuffles (legal (indices s)) true) 5 (unless (right_kind p.reads k) 6 0)))
unfolding refusal
in_order p k s h = rw h (all_through (used p s) _)

pub judged : {shape : Shape} (x : Shape) (k : Kind) (s : List ℕ) {r : ℕ} → shape ≡ x → (profile_of x).has_step ≡ true → r
    ≡ through (used (profile_of x) s) (unless (ltb (lane s) (profile_of x).lane_count) 4
    (unless (cond (profile_of x).shuffles (legal (indices s)) true) 5 (unless (right_kind (profile_of x).reads k) 6 0))) → r ≡ refusal (profile_of shape) k s
judged x k s e h q = rw (e, in_order (profile_of x) k s h) q

-- one test after the other: a test that fails is the answer, one that passes leaves it to the later ones, and of the last these say nothing
fails : (n later : ℕ) {e : ℕ} {t u : Bool} → (e ≡ 0 → ⊥) → e ≡ unless t n 0 → t ≡ u → e ≡ unless u n later
fails n later {t = true} some h f = absurd (some h)
fails n later {t = false} some h f = rw (← f) h

passes : (n : ℕ) {r later : ℕ} {t u : Bool} → 0 ≡ unless t (suc n) 0 → t ≡ u → r ≡ later → r ≡ unless u (suc n) later
passes n {t = true} h f g = rw (← f) g
passes n {t = false} h f g = absurd (let z : ◌≡◌ {A = ℕ} 0 (suc n) = h in omega arith)

tested : (n : ℕ) {r a b : ℕ} {t u : Bool} → r ≡ unless t n a → t ≡ u → a ≡ b → r ≡ unless u n b
tested n e f g = e ∙ rw (f, g)

pub register_fails : (later : ℕ) {e x y : ℕ} → (e ≡ 0 → ⊥) → e ≡ unless (leb x 15) 3 0 → x ≡ y → e ≡ unless (leb y 15) 3 later
register_fails later some h f = fails 3 later some h (ap (λ (x : ℕ). leb x 15) f)

pub register_passes : {r x y later : ℕ} → 0 ≡ unless (leb x 15) 3 0 → x ≡ y → r ≡ later → r ≡ unless (leb y 15) 3 later
register_passes h f g = passes 2 h (ap (λ (x : ℕ). leb x 15) f) g

pub register : {r x y a b : ℕ} → r ≡ unless (leb x 15) 3 a → x ≡ y → a ≡ b → r ≡ unless (leb y 15) 3 b
register e f g = tested 3 e (ap (λ (x : ℕ). leb x 15) f) g

pub place_fails : (n later : ℕ) {e x y : ℕ} → (e ≡ 0 → ⊥) → e ≡ unless (ltb x n) 4 0 → x ≡ y → e ≡ unless (ltb y n) 4 later
place_fails n later some h f = fails 4 later some h (ap (λ (x : ℕ). ltb x n) f)

pub place_passes : (n : ℕ) {r x y later : ℕ} → 0 ≡ unless (ltb x n) 4 0 → x ≡ y → r ≡ later → r ≡ unless (ltb y n) 4 later
place_passes n h f g = passes 3 h (ap (λ (x : ℕ). ltb x n) f) g

pub place : (n : ℕ) {r x y a b : ℕ} → r ≡ unless (ltb x n) 4 a → x ≡ y → a ≡ b → r ≡ unless (ltb y n) 4 b
place n e f g = tested 4 e (ap (λ (x : ℕ). ltb x n) f) g

-- a lane that is not used is below 256, as every byte is
pub unused : {x y a b : ℕ} → x < 256 → x ≡ y → a ≡ b → a ≡ unless (ltb y 256) 4 b
unused {x} {y} l f g =
    let t : ltb y 256 ≡ true = lt-ltb y 256 (omega arith) in
    rw t g
