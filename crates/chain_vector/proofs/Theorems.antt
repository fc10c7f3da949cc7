-- The theorem of order 13, of the code: a chain that is not refused, applied to two vectors, gives what one `i8x16_shuffle` by the indices that `fold` writes
-- gives. Assumes nothing.
use mathlib.Core.Path.{◌≡◌, sym, ◌∙◌}
use mathlib.Core.List.{List}
use Prim.Native.Nat.{ℕ, ◌*◌, ◌^◌, ◌<◌}
use native.Mathlib.Nat.{add_comm, mul_comm}
use lib.Arith.{digits_lt}
use Rattle.std.specs.Prelude.{Result}
use Rattle.standard.specs.Refusal.{at_indices}
use Rattle.standard.specs.Vector.{shuffle}
use Rattle.standard_refusal.specs.declared.Refusal.{Refusal}
use Rattle.simd.specs.Answers.{vector_answer}
use Rattle.simd.specs.Number.{number}
use Rattle.simd.specs.declared.V128.{V128}
use Rattle.simd.proofs.Coincide.{Held}
use Rattle.chain.specs.Definition.{refusal, applied, OneShuffle}
use Rattle.chain.proofs.Theorems.{applied_once}

number_lt : (v : V128) → Held v → number v < 2 ^ 128
number_lt v h = rw (add_comm v.lo (2 ^ 64 * v.hi), mul_comm (2 ^ 64) v.hi) (digits_lt h.high h.low)

-- n is what `fold` answers and `out` what it writes, r what `apply` gives, and q what `i8x16_shuffle` gives by `out`: each by its promise
pub one_shuffle : (links : List (List ℕ)) (out : List ℕ) (n : ℕ) → n ≡ refusal links → (n ≡ 0 → OneShuffle links out) → n ≡ 0 → (a b : V128) → Held a
    → Held b → (r q : Result V128 Refusal)
    → vector_answer r ≡ applied links (number a) (number b) → vector_answer q ≡ at_indices out (shuffle out (number a) (number b))
    → vector_answer r ≡ vector_answer q
one_shuffle links out n judged writes z a b ha hb r q er eq =
    er ∙ applied_once links out (writes z) (sym judged ∙ z) (number a) (number b) (number_lt a ha) (number_lt b hb) ∙ sym eq
