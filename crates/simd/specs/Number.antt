-- The number that a vector of the code stands for.
use Rattle.std.specs.Prelude.{ℕ, ◌+◌, ◌*◌, ◌^◌}
use Rattle.simd.specs.declared.V128.{V128}

abbrev pub number : V128 → ℕ
number v = v.lo + 2 ^ 64 * v.hi
