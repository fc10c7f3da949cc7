-- `lane_float_arithmetic::pairs64` meets its contract: a loop over the lanes and the idle places. Assumes nothing.
use borrow.Author.Rules.{rules}
use mathlib.Core.Path.{◌≡◌, refl, sym, ap, ap₂, ◌∙◌}
use mathlib.Core.List.{List, ◌∷◌, ◌++◌}
use Prim.Native.Nat.{ℕ, ◌+◌, ◌*◌, ◌^◌, ◌<◌}
use lib.ListN.{replicate}
use Rattle.standard.specs.Lanes.{joined, lanes, binary}
use Rattle.standard.proofs.Halves.{lanes_64, joined_64}
use Rattle.standard.proofs.Loop.{turn, done}
use Rattle.lane_float_arithmetic.proofs.pairs64.Goals as goal

with_idle : (a b : ℕ) → a < 2 ^ 64 → b < 2 ^ 64 → a ∷ b ∷ replicate 18 0 ≡ lanes 64 (a + 2 ^ 64 * b) ++ replicate 18 0
with_idle a b h k = sym (ap (λ (l : List ℕ). l ++ replicate 18 0) (lanes_64 a b h k))

pub loop-i-init : goal.loop-i-init
loop-i-init g c = (search rules, λ h e. refl)

pub loop-i-preserved : goal.loop-i-preserved
loop-i-preserved g c = (
  search rules,
  λ h e. turn 64 18 _ _ _ (with_idle c.args.a c.args.b c.ranges.a.fits c.ranges.b.fits)
      (with_idle c.args.c c.args.d c.ranges.c.fits c.ranges.d.fits) (search rules) (c.loop-i.invariant.1 h e) (e _ _ _ c.f.ensures),
)

pub returns : goal.returns
returns g c = λ h e.
    ap (joined 64) c.lanes64.ensures
    ∙ done 64 18 h _ _ (with_idle c.args.a c.args.b c.ranges.a.fits c.ranges.b.fits)
    (with_idle c.args.c c.args.d c.ranges.c.fits c.ranges.d.fits) c.loop-i.i (search rules) (c.loop-i.invariant.1 h e)
    ∙ ap₂ (binary 64 _) (joined_64 c.args.a c.args.b refl) (joined_64 c.args.c c.args.d refl)
