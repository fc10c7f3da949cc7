-- Pausing (order 12): what a run does is counted and limited, and one that is paused and taken up again, any number of times, ends as one run would. Of the
-- definition's runs. Assumes nothing.
use mathlib.Core.Path.{◌≡◌, refl, ap, sym, ◌∙◌}
use mathlib.Core.Bool.{Bool, true, false, cond}
use mathlib.Core.List.{List, [], ◌∷◌}
use Prim.Native.Nat.{ℕ, zero, suc, ◌+◌, ◌-◌, ◌*◌, ◌/◌, ◌%◌, ◌≤◌, ◌<◌}
use native.Mathlib.Omega.{arith}
use lib.ListN.{length, take, drop}
use lib.Seq.{drop-drop}
use lib.Dec.{leb, eqb}
use borrow.Author.Tests.{leb-true, leb-false, le-leb, lt-leb, eqb-true, ne_eqb}
use Rattle.standard.specs.Refusal.{Answer, given, refused}
use Rattle.calculator_rules.specs.Definition.{Machine, Outcome, ended, paused, stopped, Ending, nothing_done, counting, after, step, steps, whole_steps}
use Rattle.calculator_rules.specs.Definition.{list_refusal, taken_up, run}
use Rattle.calculator_rules.proofs.Judged.{one}

pub twice : (a b : ℕ) (e : Ending) → counting a (counting b e) ≡ counting (a + b) e
twice a b e =
    let p : a + (b + e.done) ≡ a + b + e.done = omega arith in
    ap (λ (n : ℕ). record { machine = e.machine; done = n; outcome = e.outcome }) p

pub none_before : (e : Ending) → e ≡ counting 0 e
none_before e =
    let p : e.done ≡ 0 + e.done = omega arith in
    ap (λ (n : ℕ). record { machine = e.machine; done = n; outcome = e.outcome }) p

-- What goes on from a place, where a run is paused there; its count is added.
abbrev pub resumed : Outcome → (ℕ → Ending) → Ending → Ending
resumed ended next e = e
resumed (paused q) next e = counting e.done (next q)
resumed (stopped n) next e = e

-- Steps taken up again after those that ended in e.
abbrev pub onward : ℕ → ℕ → List ℕ → Ending → Ending
onward left limit list e =
    resumed e.outcome (λ q. steps (left - e.done) limit q (drop (32 * e.done) list) e.machine) e

-- One step and what goes on after it.
abbrev stepped : Machine → (Machine → Ending) → Answer Machine → Ending
stepped m go x = after x (λ next. counting 1 (go next)) (λ n. nothing_done m (stopped n))

one_before : (left b : ℕ) (list : List ℕ) (e : Ending) → counting 1 (onward left b (drop 32 list) e) ≡ onward (suc left) b list (counting 1 e)
one_before left b list e = by e.outcome where
  by : (o : Outcome) → counting 1 (resumed o (λ q. steps (left - e.done) b q (drop (32 * e.done) (drop 32 list)) e.machine) e)
      ≡ resumed o (λ q. steps (suc left - (1 + e.done)) b q (drop (32 * (1 + e.done)) list) e.machine) (counting 1 e)
  by ended = refl
  by (stopped n) = refl
  by (paused q) =
      let p : 32 + 32 * e.done ≡ 32 * (1 + e.done) = omega arith in
      let l : left - e.done ≡ suc left - (1 + e.done) = omega arith in
      rw (drop-drop (32 * e.done) 32 list, p, l)
      (twice 1 e.done (steps (suc left - (1 + e.done)) b q (drop (32 * (1 + e.done)) list) e.machine))

pub again : (left a b place : ℕ) (list : List ℕ) (m : Machine) → steps left (a + b) place list m ≡ onward left b list (steps left a place list m)
unfolding steps
again zero a b place list m = refl
again (suc left) zero b place list m =
    let z : 0 + b ≡ b = omega arith in
    let l : suc left - 0 ≡ suc left = omega arith in
    rw (z, l) (none_before (steps (suc left) b place list m))
again (suc left) (suc a) b place list m =
    let z : suc a + b ≡ suc (a + b) = omega arith in
    rw z (by (λ next. again left a b (suc place) (drop 32 list) next) (step place m (take 32 list))) where
      by : ((next : Machine) → steps left (a + b) (suc place) (drop 32 list) next
          ≡ onward left b (drop 32 list) (steps left a (suc place) (drop 32 list) next)) → (x : Answer Machine)
          → stepped m (steps left (a + b) (suc place) (drop 32 list)) x ≡ onward (suc left) b list (stepped m (steps left a (suc place) (drop 32 list)) x)
      by h (given next) = ap (counting 1) (h next) ∙ one_before left b list (steps left a (suc place) (drop 32 list) next)
      by h (refused n) = refl

-- A limit that is not below the steps left is none.
pub enough : (left limit place : ℕ) (list : List ℕ) (m : Machine) → left ≤ limit → steps left limit place list m ≡ steps left left place list m
unfolding steps
enough zero limit place list m l = refl
enough (suc left) zero place list m l = absurd (omega arith)
enough (suc left) (suc limit) place list m l =
    by (λ next. enough left limit (suc place) (drop 32 list) next (omega arith)) (step place m (take 32 list)) where
      by : ((next : Machine) → steps left limit (suc place) (drop 32 list) next ≡ steps left left (suc place) (drop 32 list) next) → (x : Answer Machine)
          → stepped m (steps left limit (suc place) (drop 32 list)) x ≡ stepped m (steps left left (suc place) (drop 32 list)) x
      by h (given next) = ap (counting 1) (h next)
      by h (refused n) = refl

-- "the smaller of the limit and the steps before a refusal or the end"
abbrev pub least : ℕ → ℕ → ℕ
least a b = cond (leb a b) a b

next_least : (a b : ℕ) → 1 + least a b ≡ least (suc a) (1 + b)
next_least a b = of (leb a b) refl where
  of : (t : Bool) → leb a b ≡ t → 1 + cond t a b ≡ least (suc a) (1 + b)
  of true e = rw (le-leb (suc a) (1 + b) (omega (arith, leb-true a b e))) (omega arith)
  of false e = rw (lt-leb (suc a) (1 + b) (omega (arith, leb-false a b e)))

least_zero : (b : ℕ) → ◌≡◌ {A = ℕ} 0 (least 0 b)
least_zero b = rw (le-leb 0 b (omega arith))

least_none : (a : ℕ) → ◌≡◌ {A = ℕ} 0 (least (suc a) 0)
least_none a = rw (lt-leb (suc a) 0 (omega arith))

pub smaller : (left limit place : ℕ) (list : List ℕ) (m : Machine) → (steps left limit place list m).done ≡ least limit (steps left left place list m).done
unfolding steps
smaller zero zero place list m = refl
smaller zero (suc limit) place list m = least_none limit
smaller (suc left) zero place list m = least_zero (steps (suc left) (suc left) place list m).done
smaller (suc left) (suc limit) place list m =
    by (λ next. smaller left limit (suc place) (drop 32 list) next) (step place m (take 32 list)) where
      by : ((next : Machine) → (steps left limit (suc place) (drop 32 list) next).done ≡ least limit (steps left left (suc place) (drop 32 list) next).done)
          → (x : Answer Machine) → (stepped m (steps left limit (suc place) (drop 32 list)) x).done
          ≡ least (suc limit) (stepped m (steps left left (suc place) (drop 32 list)) x).done
      by h (given next) = ap (λ (n : ℕ). 1 + n) (h next) ∙ next_least limit (steps left left (suc place) (drop 32 list) next).done
      by h (refused n) = least_none limit

least_low : (a b : ℕ) → least a b ≤ a
least_low a b = of (leb a b) refl where
  of : (t : Bool) → leb a b ≡ t → cond t a b ≤ a
  of true e = omega arith
  of false e = omega (arith, leb-false a b e)

pub limited : (left limit place : ℕ) (list : List ℕ) (m : Machine) → (steps left limit place list m).done ≤ limit
limited left limit place list m = rw (smaller left limit place list m) (least_low limit (steps left left place list m).done)

-- A run is paused at the limit, and only with steps left.
pub record At (left limit place q done : ℕ) : Type 0 where
  pub there : q ≡ place + limit
  pub all_done : done ≡ limit
  pub more : limit < left

pub pauses : (left limit place : ℕ) (list : List ℕ) (m : Machine) (q : ℕ) → (steps left limit place list m).outcome ≡ paused q
    → At left limit place q (steps left limit place list m).done
unfolding steps
pauses zero limit place list m q e = absurd (let z : ◌≡◌ {A = ℕ} 0 1 = cc in omega arith)
pauses (suc left) zero place list m q e =
    let z : place ≡ q = cc in
    record { there = omega arith; all_done = refl; more = omega arith }
pauses (suc left) (suc limit) place list m q e =
    by (λ next. pauses left limit (suc place) (drop 32 list) next q) (step place m (take 32 list)) e where
      by : ((next : Machine) → (steps left limit (suc place) (drop 32 list) next).outcome ≡ paused q
          → At left limit (suc place) q (steps left limit (suc place) (drop 32 list) next).done) → (x : Answer Machine)
          → (stepped m (steps left limit (suc place) (drop 32 list)) x).outcome ≡ paused q
          → At (suc left) (suc limit) place q (stepped m (steps left limit (suc place) (drop 32 list)) x).done
      by h (given next) k =
          let i = h next k in
          record { there = omega (arith, i.there); all_done = omega (arith, i.all_done); more = omega (arith, i.more) }
      by h (refused n) k = absurd (let z : ◌≡◌ {A = ℕ} 0 1 = cc in omega arith)

-- What passes the tests of a list.
pub record Fits (n place : ℕ) : Type 0 where
  pub whole : whole_steps n ≡ true
  pub short : n ≤ 8192
  pub inside : place ≤ n / 32

both : (a b : Bool) → cond a b false ≡ true → b ≡ true
both true b h = h
both false b h = absurd (let z : ◌≡◌ {A = ℕ} 0 1 = cc in omega arith)

pub fits : (n place limit : ℕ) → list_refusal n place limit ≡ 0 → Fits n place
fits n place limit h =
    let a = one (leb limit 256) 16 _ h in
    let b = one (whole_steps n) 0 _ a.1 in
    let c = one (leb place (n / 32)) 18 _ b.1 in
    record { whole = b.0; short = leb-true n 8192 (both (eqb (n % 32) 0) (leb n 8192) b.0); inside = leb-true place (n / 32) c.0 }

accepted : (n place limit : ℕ) → limit ≤ 256 → Fits n place → list_refusal n place limit ≡ 0
accepted n place limit l f = rw (le-leb limit 256 l, f.whole, le-leb place (n / 32) f.inside)

pub runs : (list : List ℕ) (place limit : ℕ) (m : Machine) → limit ≤ 256 → Fits (length list) place → run list place limit m
    ≡ steps (length list / 32 - place) limit place (drop (32 * place) list) (taken_up place m)
unfolding run
runs list place limit m l f = rw (accepted (length list) place limit l f)

-- Runs one after the other: where one is paused, the next takes up at the place reported, with the state left, under the next limit. The counts are added up.
unfoldable pub in_turns : List ℕ → ℕ → List ℕ → ℕ → Machine → Ending
in_turns list limit [] place m = run list place limit m
in_turns list limit (l ∷ ls) place m =
    resumed (run list place limit m).outcome (λ q. in_turns list l ls q (run list place limit m).machine)
    (run list place limit m)

abbrev pub sum : List ℕ → ℕ
sum [] = 0
sum (l ∷ ls) = l + sum ls

-- Limits that no list reaches count as one.
together : (left limit x place : ℕ) (part : List ℕ) (m : Machine) → left ≤ 256 → steps left (limit + least 256 x) place part m
    ≡ steps left (least 256 (limit + x)) place part m
together left limit x place part m h = of (leb 256 x) (leb 256 (limit + x)) refl refl where
  same : (a b : ℕ) → 256 ≤ a → 256 ≤ b → steps left a place part m ≡ steps left b place part m
  same a b i j = enough left a place part m (omega arith) ∙ sym (enough left b place part m (omega arith))

  of : (s t : Bool) → leb 256 x ≡ s → leb 256 (limit + x) ≡ t → steps left (limit + cond s 256 x) place part m
      ≡ steps left (cond t 256 (limit + x)) place part m
  of true true e g = same (limit + 256) 256 (omega arith) (omega arith)
  of true false e g = absurd (omega (arith, leb-true 256 x e, leb-false 256 (limit + x) g))
  of false true e g = same (limit + x) 256 (omega (arith, leb-true 256 (limit + x) g)) (omega arith)
  of false false e g = refl

-- One turn: steps that go on, where they are paused, as steps under another limit would, are steps under both.
turned : (left limit b place : ℕ) (part : List ℕ) (m : Machine) (next : ℕ → Machine → Ending)
    → ((q : ℕ) (k : Machine) → q ≡ place + limit → limit < left → next q k ≡ steps (left - limit) b q (drop (32 * limit) part) k)
    → resumed (steps left limit place part m).outcome (λ q. next q (steps left limit place part m).machine) (steps left limit place part m)
    ≡ steps left (limit + b) place part m
turned left limit b place part m next goes =
    of (steps left limit place part m) (pauses left limit place part m) (steps left limit place part m).outcome refl
    ∙ sym (again left limit b place part m)
  where
    of : (e : Ending) → ((q : ℕ) → e.outcome ≡ paused q → At left limit place q e.done) → (o : Outcome) → e.outcome ≡ o
        → resumed e.outcome (λ q. next q e.machine) e ≡ onward left b part e
    of e at ended g = rw g
    of e at (stopped k) g = rw g
    of e at (paused q) g =
        let here = at q g in
        rw (g, here.all_done) (ap (counting limit) (goes q e.machine here.there here.more))

-- "limits above 0"
abbrev pub Limit : ℕ → Type 0
Limit l = (0 < l) × (l ≤ 256)

one_turn : (list : List ℕ) (limit x place : ℕ) (m : Machine) (next : ℕ → Machine → Ending) → Limit limit → Fits (length list) place
    → ((q : ℕ) (k : Machine) → next q k ≡ run list q (least 256 x) k)
    → resumed (run list place limit m).outcome (λ q. next q (run list place limit m).machine) (run list place limit m)
    ≡ run list place (least 256 (limit + x)) m
one_turn list limit x place m next h f goes =
    rw (runs list place limit m h.1 f, runs list place (least 256 (limit + x)) m (least_low 256 (limit + x)) f)
    (turned (length list / 32 - place) limit (least 256 x) place (drop (32 * place) list) (taken_up place m) next on
    ∙ together (length list / 32 - place) limit x place (drop (32 * place) list) (taken_up place m) (omega (arith, f.short)))
  where
    on : (q : ℕ) (k : Machine) → q ≡ place + limit → limit < length list / 32 - place → next q k
        ≡ steps (length list / 32 - place - limit) (least 256 x) q (drop (32 * limit) (drop (32 * place) list)) k
    on q k e more =
        let there : Fits (length list) q = record { whole = f.whole; short = f.short; inside = omega arith } in
        let later : eqb q 0 ≡ false = ne_eqb q 0 (λ z. omega (arith, h.0)) in
        let l : length list / 32 - q ≡ length list / 32 - place - limit = omega arith in
        let p : 32 * place + 32 * limit ≡ 32 * q = omega arith in
        goes q k ∙ runs list q (least 256 x) k (least_low 256 x) there ∙ rw (later, l, drop-drop (32 * limit) (32 * place) list, p)

abbrev pub Limits : List ℕ → Type 0
Limits [] = Unit {0}
Limits (l ∷ ls) = Limit l × Limits ls

alone : (x : ℕ) → x ≤ 256 → least 256 (x + 0) ≡ x
alone x h = of (leb 256 (x + 0)) refl where
  of : (t : Bool) → leb 256 (x + 0) ≡ t → cond t 256 (x + 0) ≡ x
  of true e = omega (arith, leb-true 256 (x + 0) e)
  of false e = omega arith

-- A list that is refused under one limit up to 256 is refused in the same way under any other.
refused_alike : (list : List ℕ) (place a b : ℕ) (m : Machine) → a ≤ 256 → b ≤ 256 → eqb (list_refusal (length list) place a) 0 ≡ false → run list place b m
    ≡ nothing_done m (stopped (list_refusal (length list) place a))
unfolding run
refused_alike list place a b m h k e =
    let r : list_refusal (length list) place b ≡ list_refusal (length list) place a = rw (le-leb a 256 h, le-leb b 256 k) in
    rw (r, e)

-- "pausing and taking up the same list at the place reported with the state left, any number of times with limits above 0": a run under the limits' sum
pub as_one : (list ls : List ℕ) (limit place : ℕ) (m : Machine) → Limit limit → Limits ls → in_turns list limit ls place m
    ≡ run list place (least 256 (limit + sum ls)) m
unfolding in_turns
as_one list [] limit place m h w = ap (λ (n : ℕ). run list place n m) (sym (alone limit h.1))
as_one list (l ∷ ls) limit place m h w =
    by (λ q k. as_one list ls l q k w.0 w.1) (eqb (list_refusal (length list) place limit) 0) refl where
      by : ((q : ℕ) (k : Machine) → in_turns list l ls q k ≡ run list q (least 256 (l + sum ls)) k) → (t : Bool)
          → eqb (list_refusal (length list) place limit) 0 ≡ t
          → resumed (run list place limit m).outcome (λ q. in_turns list l ls q (run list place limit m).machine) (run list place limit m)
          ≡ run list place (least 256 (limit + (l + sum ls))) m
      by goes true e = one_turn list limit (l + sum ls) place m (in_turns list l ls) h (fits (length list) place limit (eqb-true _ 0 e)) goes
      by goes false e =
          rw (
            refused_alike list place limit limit m h.1 h.1 e,
            refused_alike list place limit (least 256 (limit + (l + sum ls))) m h.1
                (least_low 256 (limit + (l + sum ls))) e,
          )

-- A limit that reaches over the steps left is as good as 256.
full : (list : List ℕ) (place x : ℕ) (m : Machine) → length list / 32 ≤ place + x → run list place (least 256 x) m ≡ run list place 256 m
full list place x m h = by (eqb (list_refusal (length list) place 256) 0) refl where
  reaches : (left : ℕ) → left ≤ 256 → left ≤ x → left ≤ least 256 x
  reaches left i j = of (leb 256 x) where
    of : (t : Bool) → left ≤ cond t 256 x
    of true = i
    of false = j

  by : (t : Bool) → eqb (list_refusal (length list) place 256) 0 ≡ t → run list place (least 256 x) m ≡ run list place 256 m
  by true e =
      let f = fits (length list) place 256 (eqb-true _ 0 e) in
      rw (runs list place (least 256 x) m (least_low 256 x) f, runs list place 256 m (omega arith) f)
      (enough (length list / 32 - place) (least 256 x) place (drop (32 * place) list) (taken_up place m)
      (reaches (length list / 32 - place) (omega (arith, f.short)) (omega arith))
      ∙ sym (enough (length list / 32 - place) 256 place (drop (32 * place) list) (taken_up place m) (omega (arith, f.short))))
  by false e =
      rw (refused_alike list place 256 (least 256 x) m (omega arith) (least_low 256 x) e, refused_alike list place 256 256 m (omega arith) (omega arith) e)

-- A run that is not paused is the run under limit 256.
finished : (list : List ℕ) (place a : ℕ) (m : Machine) → a ≤ 256 → ((q : ℕ) → (run list place a m).outcome ≡ paused q → ⊥) → run list place a m
    ≡ run list place 256 m
finished list place a m h unpaused = by (eqb (list_refusal (length list) place a) 0) refl where
  no_more : (left : ℕ) (part : List ℕ) (k : Machine) → ((q : ℕ) → (steps left a place part k).outcome ≡ paused q → ⊥) → steps left a place part k
      ≡ steps left 256 place part k
  no_more left part k u =
      let z : a + (256 - a) ≡ 256 = omega arith in
      of (steps left a place part k) u (steps left a place part k).outcome refl ∙ sym (again left a (256 - a) place part k)
      ∙ ap (λ (n : ℕ). steps left n place part k) z where
        of : (e : Ending) → ((q : ℕ) → e.outcome ≡ paused q → ⊥) → (o : Outcome) → e.outcome ≡ o → e ≡ onward left (256 - a) part e
        of e v ended g = rw g
        of e v (stopped n) g = rw g
        of e v (paused q) g = absurd (v q g)

  by : (t : Bool) → eqb (list_refusal (length list) place a) 0 ≡ t → run list place a m ≡ run list place 256 m
  by true e =
      let f = fits (length list) place a (eqb-true _ 0 e) in
      let r = runs list place a m h f in
      r ∙ no_more (length list / 32 - place) (drop (32 * place) list) (taken_up place m) (λ q g. unpaused q (ap (λ (x : Ending). x.outcome) r ∙ g))
      ∙ sym (runs list place 256 m (omega arith) f)
  by false e = rw (refused_alike list place a a m h h e, refused_alike list place a 256 m h (omega arith) e)

-- ".. ends as one run would, the counts added up"
pub ends_as_one : (list ls : List ℕ) (limit place : ℕ) (m : Machine) → Limit limit → Limits ls
    → ((q : ℕ) → (in_turns list limit ls place m).outcome ≡ paused q → ⊥) → in_turns list limit ls place m ≡ run list place 256 m
ends_as_one list ls limit place m h w unpaused =
    let r = as_one list ls limit place m h w in
    r ∙ finished list place (least 256 (limit + sum ls)) m (least_low 256 (limit + sum ls)) (λ q g. unpaused q (ap (λ (x : Ending). x.outcome) r ∙ g))

-- It does end: after as many runs as there are steps left, if not before.
each_adds : (ls : List ℕ) → Limits ls → length ls ≤ sum ls
each_adds [] w = omega arith
each_adds (l ∷ ls) w = omega (arith, each_adds ls w.1, w.0.0)

pub comes_to_an_end : (list ls : List ℕ) (limit place : ℕ) (m : Machine) → Limit limit → Limits ls → length list / 32 ≤ place + suc (length ls)
    → in_turns list limit ls place m ≡ run list place 256 m
comes_to_an_end list ls limit place m h w k =
    as_one list ls limit place m h w ∙ full list place (limit + sum ls) m (omega (arith, each_adds ls w, h.0))

pub never_paused : (list : List ℕ) (place : ℕ) (m : Machine) (q : ℕ) → (run list place 256 m).outcome ≡ paused q → ⊥
never_paused list place m q p = by (eqb (list_refusal (length list) place 256) 0) refl where
  by : (t : Bool) → eqb (list_refusal (length list) place 256) 0 ≡ t → ⊥
  by true e =
      let f = fits (length list) place 256 (eqb-true _ 0 e) in
      let at = pauses (length list / 32 - place) 256 place (drop (32 * place) list) (taken_up place m) q (rw (runs list place 256 m (omega arith) f) at p) in
      omega (arith, at.more, f.short)
  by false e =
      let r = rw (refused_alike list place 256 256 m (omega arith) (omega arith) e) at p in
      absurd (let z : ◌≡◌ {A = ℕ} 0 1 = cc in omega arith)

-- "reports the steps done: the smaller of the limit and the steps before a refusal or the end"
pub counted : (list : List ℕ) (place limit : ℕ) (m : Machine) → limit ≤ 256 → (run list place limit m).done ≡ least limit (run list place 256 m).done
counted list place limit m h = by (eqb (list_refusal (length list) place limit) 0) refl where
  by : (t : Bool) → eqb (list_refusal (length list) place limit) 0 ≡ t → (run list place limit m).done ≡ least limit (run list place 256 m).done
  by true e =
      let f = fits (length list) place limit (eqb-true _ 0 e) in
      rw (
        runs list place limit m h f,
        runs list place 256 m (omega arith) f,
        enough (length list / 32 - place) 256 place (drop (32 * place) list)
            (taken_up place m) (omega (arith, f.short)),
      )
      (smaller (length list / 32 - place) limit place (drop (32 * place) list) (taken_up place m))
  by false e =
      rw (refused_alike list place limit limit m h h e, refused_alike list place limit 256 m h (omega arith) e) (none limit) where
        none : (a : ℕ) → ◌≡◌ {A = ℕ} 0 (least a 0)
        none zero = refl
        none (suc a) = least_none a

-- "is never above the limit"
pub never_above : (list : List ℕ) (place limit : ℕ) (m : Machine) → (run list place limit m).done ≤ limit
unfolding run
never_above list place limit m = by (eqb (list_refusal (length list) place limit) 0) where
  by : (t : Bool) → (cond t (steps (length list / 32 - place) limit place (drop (32 * place) list) (taken_up place m))
      (nothing_done m (stopped (list_refusal (length list) place limit)))).done ≤ limit
  by true = limited (length list / 32 - place) limit place (drop (32 * place) list) (taken_up place m)
  by false = omega arith

-- A run is paused at the limit, and only with steps left.
pub moves_on : (list : List ℕ) (place limit : ℕ) (m : Machine) (q : ℕ) → (run list place limit m).outcome ≡ paused q
    → At (length list / 32 - place) limit place q (run list place limit m).done
unfolding run
moves_on list place limit m q = by (eqb (list_refusal (length list) place limit) 0) where
  by : (t : Bool) → (cond t (steps (length list / 32 - place) limit place (drop (32 * place) list) (taken_up place m))
      (nothing_done m (stopped (list_refusal (length list) place limit)))).outcome ≡ paused q
      → At (length list / 32 - place) limit place q
      (cond t (steps (length list / 32 - place) limit place (drop (32 * place) list) (taken_up place m))
      (nothing_done m (stopped (list_refusal (length list) place limit)))).done
  by true g = pauses (length list / 32 - place) limit place (drop (32 * place) list) (taken_up place m) q g
  by false g = absurd (let z : ◌≡◌ {A = ℕ} 0 1 = cc in omega arith)
