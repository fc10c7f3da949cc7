-- Memory (the standard, 4.4.7 "Memory Instructions"; document 01, "Memory"): a list of bytes, little-endian. `at` is the effective
-- address: pointer + offset as an exact sum, or the address of an `_at` form.
use Rattle.std.specs.Prelude.{ℕ, ◌+◌, ◌-◌, ◌/◌, ◌^◌, min, cond, List, ◌++◌, length, take, drop, ltb, leb}
use Rattle.standard.specs.Lanes.{digits, joined, splat, extract, replace}
use Rattle.standard.specs.Vector.{widen}
use Rattle.standard.specs.Refusal.{Answer, given, refused}

-- What an access gives: an answer as of any operation, or the number of its refusal and the shortfall.
pub data Accessed (A : Type 0) : Type 0 where
  answered : Answer A → Accessed A
  past : ℕ → ℕ → Accessed A

-- Document 02, order 9: "the exact end of the access minus the length, or 2^64−1 where it is larger than that".
abbrev pub shortfall : List ℕ → ℕ → ℕ → ℕ
shortfall m at n = min (at + n - length m) (2 ^ 64 - 1)

-- 7: "access past the end". An access of n bytes is allowed when the exact end is at most the length.
unfoldable pub within : {A : Type 0} → List ℕ → ℕ → ℕ → A → Accessed A
within m at n a = cond (leb (at + n) (length m)) (answered (given a)) (past 7 (shortfall m at n))

-- "a lane load or store tests 4 before 7".
abbrev pub lane_before : {A : Type 0} → ℕ → ℕ → Accessed A → Accessed A
lane_before w lane a = cond (ltb lane (128 / w)) a (answered (refused 4))

-- The number that n bytes stand for, low byte first.
unfoldable pub number_at : List ℕ → ℕ → ℕ → ℕ
number_at m at n = joined 8 (take n (drop at m))

-- The memory with the n bytes of c, low byte first, and all other bytes as they were.
unfoldable pub with_number : List ℕ → ℕ → ℕ → ℕ → List ℕ
with_number m at n c = take at m ++ digits 8 n c ++ drop (at + n) m

-- v128.load; v128.loadN_zero, which clears the remaining lanes: the number of the bytes (16; N / 8 of them).
unfoldable pub load : ℕ → List ℕ → ℕ → Accessed ℕ
load n m at = within m at n (number_at m at n)

-- v128.loadN_splat.
unfoldable pub load_splat : ℕ → List ℕ → ℕ → Accessed ℕ
load_splat w m at = within m at (w / 8) (splat w (number_at m at (w / 8)))

-- v128.loadMxN_sx: 8 bytes, widened.
unfoldable pub load_widen : (ℕ → ℕ → ℕ → ℕ) → ℕ → List ℕ → ℕ → Accessed ℕ
load_widen sx w m at = within m at 8 (widen sx w (number_at m at 8))

-- v128.loadN_lane into the vector x.
unfoldable pub load_lane : ℕ → ℕ → ℕ → List ℕ → ℕ → Accessed ℕ
load_lane w x lane m at = lane_before w lane (within m at (w / 8) (replace w x lane (number_at m at (w / 8))))

-- What a store leaves: the memory afterwards, or a refusal; then the memory is as it was.
unfoldable pub store : ℕ → ℕ → List ℕ → ℕ → Accessed (List ℕ)
store n x m at = within m at n (with_number m at n x)

-- v128.storeN_lane of the vector x.
unfoldable pub store_lane : ℕ → ℕ → ℕ → List ℕ → ℕ → Accessed (List ℕ)
store_lane w x lane m at = lane_before w lane (store (w / 8) (extract w x lane) m at)

-- What a store hands back together with every byte that it leaves: "memory unwritten" after a refusal.
pub data Stored : Type 0 where
  written : List ℕ → Stored
  kept : ℕ → List ℕ → Stored
  kept_past : ℕ → ℕ → List ℕ → Stored

abbrev pub stored : Accessed (List ℕ) → List ℕ → Stored
stored (answered (given after)) before = written after
stored (answered (refused n)) before = kept n before
stored (past n short) before = kept_past n short before
