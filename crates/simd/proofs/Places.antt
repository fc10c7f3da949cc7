-- The lanes of a vector and the idle places after them, as lanes of the code of which `h` says what number each is.
-- Assumes nothing.
use mathlib.Core.Path.{◌≡◌, sym, ap, ap₂, ◌∙◌}
use mathlib.Core.List.{List, ◌++◌, map}
use Prim.Native.Nat.{ℕ, ◌+◌, ◌/◌, ◌<◌}
use lib.ListN.{length, get_or, set, replicate, length-map, length-set}
use Rattle.std.proofs.lemmas.List.{map-set}
use Rattle.standard.specs.Lanes.{lanes}
use Rattle.standard.proofs.Loop.{zip_to, places, turn}

module _ {A : Type 0} (h : A → ℕ) (w m : ℕ) where
  pub as_many : (x : ℕ) (xs : List A) {n : ℕ} → map h xs ≡ lanes w x ++ replicate m 0 → n ≡ 128 / w + m → length xs ≡ n
  as_many x xs e k = sym (length-map xs h) ∙ places w m x e ∙ sym k

  pub one_more : (op : ℕ → ℕ → ℕ) (x y : ℕ) (xs ys zs : List A) → map h xs ≡ lanes w x ++ replicate m 0 → map h ys ≡ lanes w y ++ replicate m 0
      → {i : ℕ} {r : A} → i < 128 / w + m → map h zs ≡ zip_to op i (map h xs) (map h ys)
      → h r ≡ op (get_or (map h zs) i 0) (get_or (map h ys) i 0) → map h (set zs i r) ≡ zip_to op (i + 1) (map h xs) (map h ys)
  one_more op x y xs ys zs ex ey {i} {r} below before e = map-set h zs i r ∙ turn w m op x y ex ey below before e
