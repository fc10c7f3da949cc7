-- One law for each shape of load and store, over the width: what is made of the number that was loaded, and a lane that is judged before the bounds.
-- Assumes nothing.
use Rattle.std.proofs.Common.{◌≡◌, ℕ, ◌+◌, ◌/◌, ◌<◌, ◌≤◌, Bool, true, false, cond, leb, List, length, refl}
use Rattle.std.proofs.lemmas.Bool.{lt-ltb, le-ltb}
use Rattle.standard.specs.Lanes.{splat, extract, replace}
use Rattle.standard.specs.Refusal.{given, refused}
use Rattle.standard.specs.Vector.{widen}
use Rattle.standard.specs.Memory.{Accessed, within, answered, past, shortfall, number_at, load, load_splat, load_widen, load_lane, store, store_lane}

-- what is made of the number of an access that is allowed
abbrev pub mapped : (ℕ → ℕ) → Accessed ℕ → Accessed ℕ
mapped f (answered (given x)) = answered (given (f x))
mapped f (answered (refused n)) = answered (refused n)
mapped f (past n s) = past n s

within_maps : (f : ℕ → ℕ) (m : List ℕ) (at n x : ℕ) → within m at n (f x) ≡ mapped f (within m at n x)
unfolding within
within_maps f m at n x = by_test (leb (at + n) (length m))
  where
    by_test : (t : Bool) → cond t (answered (given (f x))) (past 7 (shortfall m at n)) ≡ mapped f (cond t (answered (given x)) (past 7 (shortfall m at n)))
    by_test true = refl
    by_test false = refl

pub splat_maps : (w : ℕ) (m : List ℕ) (at : ℕ) → load_splat w m at ≡ mapped (splat w) (load (w / 8) m at)
unfolding load load_splat
splat_maps w m at = within_maps (splat w) m at (w / 8) (number_at m at (w / 8))

pub widen_maps : (sx : ℕ → ℕ → ℕ → ℕ) (w : ℕ) (m : List ℕ) (at : ℕ) → load_widen sx w m at ≡ mapped (widen sx w) (load 8 m at)
unfolding load load_widen
widen_maps sx w m at = within_maps (widen sx w) m at 8 (number_at m at 8)

-- a lane is judged before the bounds
pub lane_load_maps : (w x lane : ℕ) (m : List ℕ) (at : ℕ) → lane < 128 / w → load_lane w x lane m at ≡ mapped (replace w x lane) (load (w / 8) m at)
unfolding load load_lane
lane_load_maps w x lane m at h =
    rw (lt-ltb lane (128 / w) h) (within_maps (replace w x lane) m at (w / 8) (number_at m at (w / 8)))

pub no_lane_load : (w x lane : ℕ) (m : List ℕ) (at : ℕ) → 128 / w ≤ lane → load_lane w x lane m at ≡ answered (refused 4)
unfolding load_lane
no_lane_load w x lane m at h = rw (le-ltb lane (128 / w) h)

pub lane_store_is : (w x lane : ℕ) (m : List ℕ) (at : ℕ) → lane < 128 / w → store_lane w x lane m at ≡ store (w / 8) (extract w x lane) m at
unfolding store_lane
lane_store_is w x lane m at h = rw (lt-ltb lane (128 / w) h)

pub no_lane_store : (w x lane : ℕ) (m : List ℕ) (at : ℕ) → 128 / w ≤ lane → store_lane w x lane m at ≡ answered (refused 4)
unfolding store_lane
no_lane_store w x lane m at h = rw (le-ltb lane (128 / w) h)
