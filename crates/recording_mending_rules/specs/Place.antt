-- Between the code and the definition: the bit that a check tells.
use Rattle.std.specs.Prelude.{ℕ, ◌-◌, ◌≤◌, ◌<◌, ◌≡◌}
use Rattle.recording_crc16.specs.Powers.{times}

-- k is the bit whose flip brings a register of 0 to q after 4,096 bits; 4,096 or more: there is none
pub record Place (q k : ℕ) : Type 0 where
  pub found : k < 4096 → times (4096 - k) 32768 ≡ q
  pub none : 4096 ≤ k → (j : ℕ) → j < 4096 → times (4096 - j) 32768 ≡ q → ⊥
