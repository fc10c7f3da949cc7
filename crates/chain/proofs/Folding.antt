-- The folding's loop over the links: the bytes of the current vector, each by where it stands in a and b, make the same of the links that are left as the chain
-- of the bytes 0 to 31 does.
-- Assumes nothing.
use mathlib.Core.Path.{◌≡◌, refl, sym, ap, ◌∙◌}
use mathlib.Core.Bool.{true}
use mathlib.Core.List.{List, ◌++◌, map}
use Prim.Native.Nat.{ℕ, zero, suc, ◌+◌, ◌%◌, ◌<◌, ◌≤◌}
use native.Mathlib.Omega.{arith}
use lib.ListN.{length, get_or, drop, drop_of_length-le}
use borrow.Author.Rules.{rules}
use Rattle.std.specs.Prelude.{Result, Ok, Err, IsErr}
use Rattle.standard.specs.Lanes.{joined, lanes}
use Rattle.standard.specs.Vector.{shuffle}
use Rattle.standard_refusal.specs.declared.Refusal.{Refusal}
use Rattle.standard_refusal.specs.Number.{number_of, code_of}
use Rattle.standard_refusal.proofs.Numbers.{not_0}
use Rattle.standard.proofs.Digits.{Below, lanes_joined}
use Rattle.standard.proofs.Rearrange.{shuffle_is}
use Rattle.chain.specs.Definition.{indices, partner, chained, all_legal, counted, low_places, high_places, folded, left}
use Rattle.chain.proofs.Judging.{one_more, link_legal}
use Rattle.chain.proofs.Lists.{partner_of, partner_has, picked_below, counted_below}

abbrev pub Folding : List (List ℕ) → ℕ → List ℕ → Type 0
Folding links k current =
    (length current ≡ 16) × (Below 256 current × (lanes 8 (chained (drop k links) low_places high_places (joined 8 current)) ≡ folded links))

pub starts : (links : List (List ℕ)) → Folding links 0 (counted 16 0)
unfolding folded
starts links = (refl, (counted_below 256 16 0 (omega arith), refl))

module _ (links : List (List ℕ)) (k : ℕ) (current : List ℕ) (f : Folding links k current) where
  bytes : lanes 8 (joined 8 current) ≡ current
  bytes = lanes_joined 8 refl current f.0 f.1.0

  pub goes_on : (d next : List ℕ) → k < length links → all_legal links ≡ true → length next ≡ 16
      → next ≡ map (λ i. get_or (current ++ partner (get_or (get_or links k d) 0 0) (counted 16 0) (counted 16 16) current) (i % 32) 0)
      (indices (get_or links k d))
      → Folding links (k + 1) next
  unfolding chained
  goes_on d next h legal e is =
      let link = get_or links k d in
      let p = get_or link 0 0 in
      let beside = partner p (counted 16 0) (counted 16 16) current in
      let both = partner p low_places high_places (joined 8 current) in
      let of_partner : beside ≡ lanes 8 both =
      ap (partner p (counted 16 0) (counted 16 16)) (sym bytes) ∙ partner_of (lanes 8) p low_places high_places (joined 8 current) in
      let shuffled : joined 8 next ≡ shuffle (indices link) (joined 8 current) both =
      ap (joined 8) is ∙ shuffle_is (indices link) (joined 8 current) both (link_legal links k d h legal) refl (sym bytes) of_partner in
      let turn : chained (drop (k + 1) links) low_places high_places (joined 8 next) ≡ chained (drop k links) low_places high_places (joined 8 current) =
      ap (chained (drop (k + 1) links) low_places high_places) shuffled
      ∙ ap (λ (rest : List (List ℕ)). chained rest low_places high_places (joined 8 current)) (sym (one_more d links k h)) in
      let below = picked_below 256 (omega arith) (λ i. i % 32) current beside (indices link) f.1.0
      (partner_has (Below 256) p (counted 16 0) (counted 16 16) current (counted_below 256 16 0 (omega arith)) (counted_below 256 16 16 (omega arith))
      f.1.0) in
      (e, (rw is below, ap (lanes 8) turn ∙ f.1.1))

  pub ends : length links ≤ k → current ≡ folded links
  unfolding chained
  ends over =
      sym bytes ∙ ap (λ (rest : List (List ℕ)). lanes 8 (chained rest low_places high_places (joined 8 current))) (sym (drop_of_length-le links over)) ∙ f.1.1

-- a refused call leaves what stood there
pub kept : {A : Type 0} (r : Result A Refusal) (is before : List ℕ) → IsErr r → before ≡ left (code_of r) is before
kept (Ok x) is before e = absurd (search rules)
kept (Err q) is before e = by (number_of q) (not_0 q)
  where
    by : (n : ℕ) → (n ≡ 0 → ⊥) → before ≡ left n is before
    by zero refused = absurd (refused refl)
    by (suc n) refused = refl
