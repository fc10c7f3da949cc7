-- Any run of calls: whatever pieces are fed and whenever meetings are asked for, what was met is what the definition gives. Assumes nothing.
use mathlib.Core.Path.{◌≡◌, sym, ap, ◌∙◌}
use mathlib.Core.List.{List, [], ◌∷◌, ◌++◌}
use Prim.Native.Nat.{ℕ}
use native.Mathlib.Omega.{arith}
use lib.ListN.{take}
use Rattle.finder_windows.specs.Definition.{bits, marker_bits}
use Rattle.capture_meetings.specs.Meetings.{Meeting, met, all_from, meetings}
use Rattle.capture_history.specs.State.{place, Stands, given, Told, Taken}
use Rattle.capture_history.specs.declared.Scan.{Scan}
use Rattle.capture_history.specs.declared.Fed.{Fed}
use Rattle.capture_history.proofs.Standing.{meets, ends, grown}

-- The capture that has come, the window, the state, and the meetings that were given, after any calls: each step has what the function's contract ensures.
pub data Session (m t L : ℕ) : List ℕ → List ℕ → Scan → List Meeting → Type 0 where
  started : (window : List ℕ) (s : Scan) → Stands L [] window s → Session m t L [] window s []
  fed : (X window after piece : List ℕ) (s : Scan) (r : Fed) (G : List Meeting)
      → Session m t L X window s G → Taken L X piece after s r → Session m t L (X ++ take r.used piece) after r.scan G
  found : (X window : List ℕ) (s r : Scan) (p d e : ℕ) (G : List Meeting)
      → Session m t L X window s G → Told m t L X window s (meets p d e r) → Session m t L X window r (G ++ (met p d e ∷ []))
  searched : (X window : List ℕ) (s r : Scan) (G : List Meeting)
      → Session m t L X window s G → Told m t L X window s (ends r) → Session m t L X window r G

module _ (m t L : ℕ) where
  pub so_far : (X window : List ℕ) (s : Scan) (G : List Meeting) → Session m t L X window s G → (Stands L X window s) × (G ≡ given m t L X s)
  unfolding all_from
  so_far X window s G (started w z h) =
      let none : place s ≡ 0 = omega (arith, h.reached) in
      (h, sym (ap (λ (n : ℕ). all_from (bits []) (marker_bits m) t L n 0) none))
  so_far X window s G (fed Y w after piece z r H past taken) =
      let before = so_far Y w z H past in (
        taken.stands,
        before.1 ∙ sym (ap (λ (n : ℕ). all_from (bits (Y ++ take r.used piece)) (marker_bits m) t L n 0) taken.same
            ∙ grown (marker_bits m) t L Y (take r.used piece) (place z) before.0.reached),
      )
  so_far X window s G (found Y w z r p d e H past told) =
      let before = so_far Y w z H past in
      (told.0, ap (λ (l : List Meeting). l ++ (met p d e ∷ [])) before.1 ∙ sym told.1)
  so_far X window s G (searched Y w z r H past told) =
      let before = so_far Y w z H past in
      (told.0, before.1 ∙ sym told.1.0)

  -- Where nothing more is met, every meeting of what has come has been given, in order and each once, however it was cut.
  pub whole : (X window : List ℕ) (s r : Scan) (G : List Meeting) → Session m t L X window s G → Told m t L X window s (ends r)
      → G ≡ meetings (bits X) (marker_bits m) t L
  whole X window s r G past told = (so_far X window s G past).1 ∙ sym told.1.0 ∙ told.1.1
