-- `finder::sought::Search::by_columns` meets its contract: what a search from the byte reached gives is the answer. Assumes nothing.
use Prim.Native.Nat.{ℕ, ◌+◌, ◌*◌, ◌-◌, ◌/◌, ◌%◌, ◌≤◌}
use mathlib.Core.Path.{◌≡◌, refl, sym, ◌∙◌}
use mathlib.Core.List.{List}
use mathlib.Core.Logic.{⊎_elim}
use native.Mathlib.Nat.{add-zero}
use native.Mathlib.Omega.{arith}
use Rattle.finder_windows.specs.Definition.{bits, marker_bits, Answer, first_from}
use Rattle.finder_windows.proofs.Positions.{far, none, passed, met_early, none_early}
use Rattle.finder_passing.specs.Next.{Far, Next}
use Rattle.finder.proofs.sought.Search.by_columns.Goals as goal

-- a search goes on behind bytes in which every window is too far
over : (bs : List ℕ) (m t L from to n : ℕ) {a : Answer} {n' : ℕ} → from ≤ to → 8 * to ≤ 8 * from + n → n - (8 * to - 8 * from) ≡ n' → Far bs m t from to
    → a ≡ first_from (bits bs) (marker_bits m) t L n (8 * from) → a ≡ first_from (bits bs) (marker_bits m) t L n' (8 * to)
over bs m t L from to n h room left away reached =
    passed (bits bs) (marker_bits m) t L (8 * to - 8 * from) n (8 * from) (omega arith) left (omega arith) reached 11
    (sym (none (bits bs) (marker_bits m) t L (8 * to - 8 * from) (8 * from)
    (λ k hk. far (bits bs) (marker_bits m) t L (8 * from + k) refl (away (8 * from + k) (omega arith) (omega arith)))))

not_past : {bs : List ℕ} {m t from end r : ℕ} → Next bs m t from end r → from ≤ end → r ≤ end
not_past next h = ⊎_elim (λ same. omega arith) (λ inside. inside.0) next.inside

pub loop-at-init : goal.loop-at-init
loop-at-init c = λ made.
    let given = c.args in
    let next = c.next-at.ensures given.self.now.marker given.self.now.tolerance (omega arith) made in
    let to = not_past next (omega arith) in
    (next.reached, to, over _ _ _ _ given.from c.next-at.result given.count next.reached (omega arith) (omega arith) next.far refl)

pub returns-then-is_some : goal.returns-then-is_some
returns-then-is_some c = λ made.
    let given = c.args in
    let loop = c.loop-at in
    let so_far = loop.invariant made in
    met_early _ _ _ _ 8 (8 * given.from + given.count - 8 * loop.at) (8 * loop.at) (omega (arith, so_far.0, so_far.1)) c.among-found.result
    (sym c.is_some.ensures ∙ c.if-is_some.true)
    (rw (add-zero (8 * loop.at)) at c.among-found.ensures)
    ∙ sym so_far.2

-- columns go forward
pub returns-then-later-at : goal.returns-then-later-at
returns-then-later-at c = λ made. absurd (omega (arith, (c.next-later.ensures c.args.self.now.marker c.args.self.now.tolerance (omega arith) made).reached))

pub loop-at-preserved : goal.loop-at-preserved
loop-at-preserved c = λ made.
    let given = c.args in
    let loop = c.loop-at in
    let so_far = loop.invariant made in
    let next = c.next-later.ensures c.args.self.now.marker c.args.self.now.tolerance (omega arith) made in
    let to = not_past next (omega arith) in
    let one : 8 * loop.at + 8 ≡ 8 * (loop.at + 1) = omega arith in
    let behind = none_early _ _ _ _ 8 (8 * given.from + given.count - 8 * loop.at) (8 * loop.at) (omega (arith, so_far.0, so_far.1)) c.among-found.result
    (sym c.is_some.ensures ∙ c.if-is_some.false)
    (rw (add-zero (8 * loop.at)) at c.among-found.ensures) refl one so_far.2 in (
      omega (arith, next.reached, so_far.0),
      to,
      over _ _ _ _ (loop.at + 1) c.next-later.result (8 * given.from + given.count - 8 * loop.at - 8) next.reached (omega (arith, so_far.0))
          (omega (arith, so_far.0, next.reached)) next.far behind,
    )

pub returns : goal.returns
returns c = λ made.
    let given = c.args in
    let loop = c.loop-at in
    let so_far = loop.invariant made in
    let there : given.from + given.count / 8 ≡ loop.at = omega (arith, so_far.1) in
    let left : given.count % 8 - 0 ≡ 8 * given.from + given.count - 8 * loop.at = omega (arith, so_far.0, so_far.1) in
    let place : 8 * loop.at + 0 ≡ 8 * loop.at = omega arith in
    rw (there, place, left) at c.among.ensures ∙ sym so_far.2
