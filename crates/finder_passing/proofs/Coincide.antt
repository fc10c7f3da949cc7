-- Any two answers that the promise of `next` allows are one. Assumes nothing.
use Rattle.std.proofs.Common.{◌≡◌, ℕ, ◌+◌, ◌<◌, ◌≤◌, Bool, true, false, ltb, List, length, refl, ⊎_elim, arith, ltb-false, ltb-true}
use Rattle.finder_passing.specs.Next.{Next}
use Rattle.finder_passing.proofs.Sums.{far_part}

module _ (bs : List ℕ) (m t from end : ℕ) where
  no_later : (r s : ℕ) → Next bs m t from end r → Next bs m t from end s → s ≤ r
  no_later r s p q = by (ltb r s) refl
    where
      below : r < s → (s ≤ end) × (s + 4 ≤ length bs)
      below h = ⊎_elim (λ same. absurd (omega (arith, p.reached))) (λ in_end. in_end) q.inside

      by : (b : Bool) → ltb r s ≡ b → s ≤ r
      by true e =
          let h = ltb-true r s e in
          let room = below h in
          absurd (p.near (omega arith) (omega arith) (far_part bs m t from s r (r + 1) p.reached (omega arith) q.far))
      by false e = ltb-false r s e

  pub next_coincide : (r s : ℕ) → Next bs m t from end r → Next bs m t from end s → r ≡ s
  next_coincide r s p q = omega (arith, no_later r s p q, no_later s r q p)
