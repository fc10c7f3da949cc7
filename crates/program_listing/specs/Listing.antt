-- The listing of a run (document 01, "The calculator (added)", with the numbers of document 02's order 1), as a list of ASCII codes.
use Rattle.std.specs.Prelude.{ℕ, suc, cond, List, [], ◌∷◌, ◌++◌, eqb}
use Rattle.standard.specs.Instruction.{Kind, i32, i64, f32, f64}
use Rattle.standard.specs.Lanes.{lanes}
use Rattle.calculator_rules.specs.Definition.{Machine, Outcome, ended, paused, stopped, Ending, start, run}
use Rattle.program_digits.specs.Codes.{codes}
use Rattle.program_digits.specs.Digits.{two_decimals, hex, hex_bytes}
use Rattle.program_digits.specs.Lines.{count_line}

-- "one line for each register that is not all zero [..] (`r` and two decimal digits, a space, then 16 bytes in hex, byte 0 first)"; the number of the step
-- that wrote it "in decimal at the end of each register line, after a space"
unfoldable pub nonzero_line : ℕ → ℕ → ℕ → List ℕ
nonzero_line i v writer = codes "r" ++ (two_decimals i ++ (codes " " ++ (hex_bytes (lanes 8 v) ++ count_line " " writer)))

abbrev pub register_line : ℕ → ℕ → ℕ → List ℕ
register_line i v writer = cond (eqb v 0) [] (nonzero_line i v writer)

-- "lowest number first": the registers from number i on, each beside its writer
unfoldable pub register_lines : ℕ → List ℕ → List ℕ → List ℕ
register_lines i [] writers = []
register_lines i (v ∷ vs) [] = []
register_lines i (v ∷ vs) (w ∷ ws) = register_line i v w ++ register_lines (suc i) vs ws

-- "`s`, the kind and the bits in hex, highest digit first, 8 or 16 digits"
unfoldable pub scalar_line : Kind → ℕ → List ℕ
scalar_line i32 b = codes "s i32 " ++ (hex 8 b ++ codes "\n")
scalar_line i64 b = codes "s i64 " ++ (hex 16 b ++ codes "\n")
scalar_line f32 b = codes "s f32 " ++ (hex 8 b ++ codes "\n")
scalar_line f64 b = codes "s f64 " ++ (hex 16 b ++ codes "\n")

-- "`steps` and the count", the registers, the scalar, "`refused` and the number"
unfoldable pub listing : Machine → ℕ → ℕ → List ℕ
listing m done refused =
    count_line "steps " done
    ++ (register_lines 0 m.registers m.writers ++ (scalar_line m.kind m.bits ++ count_line "refused " refused))

-- the number of a refusal, 0 for none
abbrev pub refused_by : Outcome → ℕ
refused_by ended = 0
refused_by (paused q) = 0
refused_by (stopped n) = n

-- What the program `lanes` writes of a list: "starts from zero registers and scalar i32 0", from place 0 under limit 256 (order 12).
abbrev pub ended_listing : Ending → List ℕ
ended_listing e = listing e.machine e.done (refused_by e.outcome)

unfoldable pub lanes_text : List ℕ → List ℕ
lanes_text list = ended_listing (run list 0 256 start)
