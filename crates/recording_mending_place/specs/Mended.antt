-- What an answer of the code stands for.
use Rattle.std.specs.Prelude.{ℕ, Option, Some, None, Result, Ok, Err}
use Rattle.recording_mending_rules.specs.Definition.{Mended, kept, put_back, beyond}
use Rattle.recording_mending_place.specs.declared.Beyond.{Beyond}
use Rattle.recording_mending_place.specs.declared.bit.Bit.{Bit}

-- The bit put back; 4,096, which is no bit, for none.
abbrev pub number_of : Option Bit → ℕ
number_of None = 4096
number_of (Some bit) = bit.number

abbrev pub mended_of : Result (Option Bit) Beyond → Mended
mended_of (Ok None) = kept
mended_of (Ok (Some bit)) = put_back bit.number
mended_of (Err no_bit) = beyond
