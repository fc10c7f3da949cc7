-- Worked examples of the check. Assumes nothing.
use mathlib.Core.Path.{◌≡◌, refl}
use mathlib.Core.List.{[], ◌∷◌}
use Rattle.recording_crc16.specs.Remainder.{◌⊕◌, shift, step, run, bits, spread, check}

-- the published value of this check: that of the nine bytes "123456789"
pub nine_digits : check (49 ∷ 50 ∷ 51 ∷ 52 ∷ 53 ∷ 54 ∷ 55 ∷ 56 ∷ 57 ∷ []) ≡ 0x29B1
unfolding check spread bits run step shift ◌⊕◌
nine_digits = refl

-- no byte at all
pub none : check [] ≡ 0xFFFF
unfolding check spread run
none = refl
