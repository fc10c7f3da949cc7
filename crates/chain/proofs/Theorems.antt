-- Document 02, order 13: "Prove that for every chain of 0 to 16 links one list of sixteen indices gives the same result by one shuffle of a and b, for all a
-- and b. Two different lists differ for some a and b." Of the definition; links have their seventeen bytes (`Whole`), and vectors are below 2^128.
--     one_shuffle      one shuffle by the folded list is the chain, for all a and b
--     differ           two different lists of sixteen legal indices differ on the bytes 0 to 15 and 16 to 31
--     only             so the folded list is the only one;  legal_list: it is sixteen legal indices;  no_link: of no link it is 0 to 15
--     folds_into       all of it at once, which `fold` promises of what it writes: there the type of a link is what makes it whole
-- Assumes nothing.
use mathlib.Core.Path.{◌≡◌, refl, sym, ap, ap₂, ◌∙◌, subst}
use mathlib.Core.Bool.{Bool, true, false, cond}
use mathlib.Core.List.{List, [], ◌∷◌, ◌++◌, map}
use Prim.Native.Nat.{ℕ, zero, suc, ◌+◌, ◌^◌, ◌<◌}
use native.Mathlib.Nat.{not-suc-le-zero, le_of_suc-le-suc}
use native.Mathlib.Omega.{arith}
use borrow.Author.Tests.{le-leb, leb-true}
use lib.Dec.{leb, lit<}
use lib.ListN.{length, get_or, length-append}
use Rattle.standard.specs.Lanes.{lanes}
use Rattle.standard.specs.Vector.{shuffle}
use Rattle.standard.specs.Refusal.{given, refused, legal, at_indices}
use Rattle.standard.proofs.Digits.{Below, length_digits, lanes_determine}
use Rattle.standard.proofs.Halves.{map_append}
use Rattle.chain.specs.Definition.{indices, partner, chained, all_legal, refusal, answered, applied, counted, low_places, high_places, folded}
use Rattle.chain.specs.Definition.{OneShuffle}
use Rattle.chain.proofs.Judging.{both, unrefused}
use Rattle.chain.proofs.Lists.{partner_of, partner_has, picked_below, counted_below}
use Rattle.chain.proofs.Bytes.{Whole, shuffled, chained_bytes, length_indices, length_shuffled, shuffle_lt, lanes_shuffle, lanes_chained, folded_bytes}
use Rattle.chain.proofs.Bytes.{chained_lt}

-- an index of a legal list
first_legal : (i : ℕ) (is : List ℕ) → legal (i ∷ is) ≡ true → (i < 32) × (legal is ≡ true)
first_legal i is e = let l = both (leb i 31) (legal is) e in (omega (arith, leb-true i 31 l.0), l.1)

-- a chain of bytes that are g of others is g of the chain of those
module _ (g : ℕ → ℕ) where
  get_map : (t : List ℕ) (i : ℕ) → i < length t → get_or (map g t) i 0 ≡ g (get_or t i 0)
  get_map [] i h = absurd (not-suc-le-zero h)
  get_map (x ∷ xs) zero h = refl
  get_map (x ∷ xs) (suc i) h = get_map xs i (le_of_suc-le-suc h)

  picked_map : (t is : List ℕ) → length t ≡ 32 → legal is ≡ true → map (λ i. get_or (map g t) i 0) is ≡ map g (map (λ i. get_or t i 0) is)
  picked_map t [] l e = refl
  picked_map t (i ∷ is) l e = let f = first_legal i is e in ap₂ ◌∷◌ (get_map t i (omega (arith, l, f.0))) (picked_map t is l f.1)

  shuffled_map : (is x y : List ℕ) → length x ≡ 16 → length y ≡ 16 → legal is ≡ true → shuffled is (map g x) (map g y) ≡ map g (shuffled is x y)
  shuffled_map is x y lx ly e =
      ap (λ (t : List ℕ). map (λ i. get_or t i 0) is) (sym (map_append g x y)) ∙ picked_map (x ++ y) is (length-append x y ∙ ap₂ ◌+◌ lx ly) e

  chained_map : (links : List (List ℕ)) → Whole links → all_legal links ≡ true → (a b c : List ℕ) → length a ≡ 16 → length b ≡ 16 → length c ≡ 16
      → chained_bytes links (map g a) (map g b) (map g c) ≡ map g (chained_bytes links a b c)
  chained_map [] w e a b c la lb lc = refl
  chained_map (link ∷ links) (l, w) e a b c la lb lc =
      let p = get_or link 0 0 in
      let legals = both (legal (indices link)) (all_legal links) e in
      ap (chained_bytes links (map g a) (map g b))
      (ap (shuffled (indices link) (map g c)) (partner_of (map g) p a b c)
      ∙ shuffled_map (indices link) c (partner p a b c) lc (partner_has (λ (l : List ℕ). length l ≡ 16) p a b c la lb lc) legals.0)
      ∙ chained_map links w legals.1 a b (shuffled (indices link) c (partner p a b c)) la lb
      (length_shuffled (indices link) c (partner p a b c) ∙ length_indices link l)

-- the folded list is sixteen indices, and legal ones
below_legal : (is : List ℕ) → Below 32 is → legal is ≡ true
below_legal [] b = refl
below_legal (i ∷ is) b = ap (λ (t : Bool). cond t (legal is) false) (le-leb i 31 (omega (arith, b.0))) ∙ below_legal is b.1

chained_below : (links : List (List ℕ)) (a b c : List ℕ) → Below 32 a → Below 32 b → Below 32 c → Below 32 (chained_bytes links a b c)
chained_below [] a b c ba bb bc = bc
chained_below (link ∷ links) a b c ba bb bc =
    chained_below links a b _ ba bb
    (picked_below 32 (omega arith) (λ i. i) c (partner (get_or link 0 0) a b c) (indices link) bc (partner_has (Below 32) (get_or link 0 0) a b c ba bb bc))

pub legal_list : (links : List (List ℕ)) → Whole links → (length (folded links) ≡ 16) × (legal (folded links) ≡ true)
unfolding folded
legal_list links w = (
  length_digits 8 16 (chained links low_places high_places low_places),
  below_legal (folded links)
      (subst (Below 32) (sym (folded_bytes links w))
      (chained_below links (counted 16 0) (counted 16 16) (counted 16 0) (counted_below 32 16 0 (omega arith)) (counted_below 32 16 16 (omega arith))
      (counted_below 32 16 0 (omega arith)))),
)

-- "one list of sixteen indices gives the same result by one shuffle of a and b, for all a and b"
pub one_shuffle : (links : List (List ℕ)) → Whole links → all_legal links ≡ true → (a b : ℕ) → a < 2 ^ 128 → b < 2 ^ 128 → shuffle (folded links) a b
    ≡ chained links a b a
one_shuffle links w e a b ha hb =
    let byte_of : ℕ → ℕ = λ i. get_or (lanes 8 a ++ lanes 8 b) i 0 in
    let sixteen = (legal_list links w).0 in
    lanes_determine 8 refl (shuffle (folded links) a b) (chained links a b a) (shuffle_lt (folded links) sixteen a b) (chained_lt links w a b a ha)
    (lanes_shuffle (folded links) sixteen a b
    ∙ ap (map byte_of) (folded_bytes links w)
    ∙ sym (chained_map byte_of links w e (counted 16 0) (counted 16 16) (counted 16 0) refl refl refl)
    ∙ sym (lanes_chained links w a b a))

-- "Two different lists differ for some a and b": on the bytes 0 to 15 and 16 to 31, of which a shuffle has the indices for its bytes
get_counted : (n k i : ℕ) → i < n → get_or (counted n k) i 0 ≡ k + i
get_counted zero k i h = absurd (not-suc-le-zero h)
get_counted (suc n) k zero h = omega arith
get_counted (suc n) k (suc i) h = omega (arith, get_counted n (suc k) i (le_of_suc-le-suc h))

its_indices : (is : List ℕ) → legal is ≡ true → map (λ i. get_or (counted 32 0) i 0) is ≡ is
its_indices [] e = refl
its_indices (i ∷ is) e = let f = first_legal i is e in ap₂ ◌∷◌ (omega (arith, get_counted 32 0 i f.0)) (its_indices is f.1)

pub differ : (is js : List ℕ) → length is ≡ 16 → length js ≡ 16 → legal is ≡ true → legal js ≡ true
    → shuffle is low_places high_places ≡ shuffle js low_places high_places → is ≡ js
differ is js li lj ei ej same = sym (told is li ei) ∙ ap (lanes 8) same ∙ told js lj ej
  where
    told : (is : List ℕ) → length is ≡ 16 → legal is ≡ true → lanes 8 (shuffle is low_places high_places) ≡ is
    told is l e = lanes_shuffle is l low_places high_places ∙ its_indices is e

pub only : (links : List (List ℕ)) → Whole links → all_legal links ≡ true → (is : List ℕ) → length is ≡ 16 → legal is ≡ true
    → ((a b : ℕ) → a < 2 ^ 128 → b < 2 ^ 128 → shuffle is a b ≡ chained links a b a) → is ≡ folded links
only links w e is l legal-is every =
    let mine = legal_list links w in
    differ is (folded links) l mine.0 legal-is mine.1
    (every low_places high_places (lit< tt) (lit< tt) ∙ sym (one_shuffle links w e low_places high_places (lit< tt) (lit< tt)))

-- all of it, of the list that a chain which is not refused folds into
pub folds_into : (links : List (List ℕ)) → Whole links → refusal links ≡ 0 → OneShuffle links (folded links)
folds_into links w unrefuse =
    let e = unrefused links unrefuse in
    record { legal_indices = (legal_list links w).1; does = one_shuffle links w e; only = only links w e }

pub no_link : folded [] ≡ counted 16 0
unfolding folded chained
no_link = refl

-- a chain that is not refused, applied, is the shuffle by that list, which is not refused
pub applied_once : (links : List (List ℕ)) (is : List ℕ) → OneShuffle links is → refusal links ≡ 0 → (a b : ℕ) → a < 2 ^ 128 → b < 2 ^ 128
    → applied links a b ≡ at_indices is (shuffle is a b)
applied_once links is one unrefuse a b ha hb =
    ap (λ (n : ℕ). answered n (chained links a b a)) unrefuse
    ∙ ap given (sym (one.does a b ha hb))
    ∙ sym (ap (λ (t : Bool). cond t (given (shuffle is a b)) (refused 5)) one.legal_indices)
