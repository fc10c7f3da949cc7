-- A pair whose first part is another's. Assumes nothing.
use mathlib.Core.Path.{◌≡◌, refl}

pub beside : {A B : Type 0} (x y : A) (b : B) → x ≡ y → ◌≡◌ {A = A × B} (x, b) (y, b)
beside x y b e = rw e refl
