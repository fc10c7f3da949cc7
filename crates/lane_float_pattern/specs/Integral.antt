-- How a pattern is rounded to a whole number, once the direction and the sign have said which of three ways to take: to even, away from zero, or toward it.
use Rattle.std.specs.Prelude.{ℕ, ◌+◌, ◌-◌, ◌*◌, ◌/◌, ◌%◌, Bool, cond, ◌&&◌, ltb, Float}
use Rattle.std.specs.Float.{Format}
use Rattle.std.specs.Float.Ieee.{emax, hid, top, round}
use Rattle.std.specs.Float.Ieee.Nearest.{closest}
use Rattle.standard.specs.Convert.{ceiling, from}

abbrev pub chosen : Bool → Bool → ℕ → ℕ → ℕ
chosen even away n c = cond even (closest n c) (cond away (ceiling n c) (n / c))

-- A float rounded so. A NaN and an infinity stay.
abbrev pub rounded : Bool → Bool → Format → Float → Float
rounded even away f = from (λ s n c. round f s (chosen even away n c) 1)

-- What is added to n, so that the quotient by c, cut to a whole number, is the chosen one. q is n / c, of which only the last digit counts.
abbrev pub lift : Bool → Bool → ℕ → ℕ → ℕ
lift even away q c = cond even (c / 2 - 1 + q % 2) (cond away (c - 1) 0)

-- Of a pattern below that of 1, whether the chosen whole number is 1. The pattern of a half is (emax - 1) * hid.
abbrev pub rises : Format → Bool → Bool → ℕ → Bool
rises f even away a = cond even (ltb ((emax f - 1) * hid f) (a % top f)) (away && ltb 0 (a % top f))
