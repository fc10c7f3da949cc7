-- The definition's search, position by position and in parts. Assumes nothing.
use mathlib.Core.Path.{◌≡◌, refl, sym, ap, ap₂, ◌∙◌}
use mathlib.Core.Bool.{Bool, true, false, cond, ◌&&◌, true≢false, false≢true}
use mathlib.Core.List.{List}
use Prim.Native.Nat.{ℕ, zero, suc, ◌+◌, ◌-◌, ◌<◌, ◌≤◌, suc-le-suc}
use native.Mathlib.Nat.{add-zero, zero-add, suc-add, zero-lt-suc}
use native.Mathlib.Omega.{arith}
use borrow.Author.Tests.{lt-leb}
use lib.Dec.{leb}
use Rattle.std.specs.Prelude.{Option, Some, None, is_some}
use Rattle.finder_windows.specs.Definition.{window, distance, Answer, found, refused, stands, first_from}
use Rattle.finder_windows.specs.declared.Found.{Found}
use Rattle.finder_windows.specs.Answer.{met_or_none}

-- an answer, or the one of a later search where there is none
abbrev pub or_else : Answer → Answer → Answer
or_else (found p d e) later = found p d e
or_else (refused n) later = later

module _ (stream m : List ℕ) (t L : ℕ) where
  abbrev pub away : ℕ → ℕ
  away p = distance (window stream p) m

  -- a position that is passed over: the window there is too far from the marker
  pub far : {d : ℕ} (p : ℕ) → d ≡ away p → t < d → stands stream m t L p ≡ false
  far p e h = rw (lt-leb (away p) t (rw e at h))

  -- one position, judged by its two distances
  pub one : {d e : ℕ} (p : ℕ) → d ≡ away p → e ≡ away (p + L) → cond (leb d t && leb e t) (found p d e) (refused 11) ≡ first_from stream m t L 1 p
  unfolding first_from
  one p ed ee = rw (ed, ee)

  -- the first c positions, then the n after them
  pub parts : (c n p : ℕ) → first_from stream m t L (c + n) p ≡ or_else (first_from stream m t L c p) (first_from stream m t L n (p + c))
  unfolding first_from
  parts zero n p = rw (zero-add n, add-zero p)
  parts (suc c) n p = by (stands stream m t L p) refl (parts c n (p + 1))
    where
      by : (b : Bool) → stands stream m t L p ≡ b → first_from stream m t L (c + n) (p + 1)
          ≡ or_else (first_from stream m t L c (p + 1)) (first_from stream m t L n (p + 1 + c))
          → first_from stream m t L (suc c + n) p ≡ or_else (first_from stream m t L (suc c) p) (first_from stream m t L n (p + suc c))
      by true s rest = rw (suc-add c n, s)
      by false s rest =
          let later : p + 1 + c ≡ p + suc c = omega arith in
          rw (suc-add c n, s) (rest ∙ ap (λ (q : ℕ). or_else (first_from stream m t L c (p + 1)) (first_from stream m t L n q)) later)

  -- c positions at which it does not stand
  pub none : (c p : ℕ) → ((k : ℕ) → k < c → stands stream m t L (p + k) ≡ false) → first_from stream m t L c p ≡ refused 11
  unfolding first_from
  none zero p h = refl
  none (suc c) p h =
      rw (rw (add-zero p) at (h 0 (zero-lt-suc c)))
      (none c (p + 1) (λ k hk. let later : p + suc k ≡ p + 1 + k = omega arith in rw later at (h (suc k) (suc-le-suc hk))))

  -- what the first c of n positions give is the answer where it is a position
  module _ (c n p : ℕ) (h : c ≤ n) where
    first_then : first_from stream m t L n p ≡ or_else (first_from stream m t L c p) (first_from stream m t L (n - c) (p + c))
    first_then =
        let all : c + (n - c) ≡ n = omega arith in
        rw all at (parts c (n - c) p)

    pub among_the_first : {q d f : ℕ} → found q d f ≡ first_from stream m t L c p → found q d f ≡ first_from stream m t L n p
    among_the_first e = sym (first_then ∙ rw (← e))

    -- and a search that has come to p goes on behind them where they have no match
    pub passed : {a : Answer} {n' p' : ℕ} → n - c ≡ n' → p + c ≡ p' → a ≡ first_from stream m t L n p → (k : ℕ) → refused k ≡ first_from stream m t L c p
        → a ≡ first_from stream m t L n' p'
    passed en ep reached k e = reached ∙ first_then ∙ rw (← e) (ap₂ (first_from stream m t L) en ep)

    -- the same of what the code gives of the first c
    pub met_early : (o : Option Found) → is_some o ≡ true → met_or_none o ≡ first_from stream m t L c p → met_or_none o ≡ first_from stream m t L n p
    met_early (Some f) some e = among_the_first e
    met_early None some e = absurd (false≢true some)

    pub none_early : (o : Option Found) → is_some o ≡ false → met_or_none o ≡ first_from stream m t L c p → {a : Answer} {n' p' : ℕ} → n - c ≡ n' → p + c ≡ p'
        → a ≡ first_from stream m t L n p → a ≡ first_from stream m t L n' p'
    none_early (Some f) empty e en ep reached = absurd (true≢false empty)
    none_early None empty e en ep reached = passed en ep reached 11 e
