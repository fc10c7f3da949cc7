-- What the program `lease` writes (document 02, order 12), as a list of ASCII codes: a line for each call of a run, then the listing that `lanes` writes, with
-- the counts added up.
use Rattle.std.specs.Prelude.{ℕ, zero, suc, ◌+◌, cond, List, [], ◌++◌, eqb}
use Rattle.calculator_rules.specs.Definition.{Machine, Outcome, ended, paused, stopped, Ending, start, run}
use Rattle.program_digits.specs.Codes.{codes}
use Rattle.program_digits.specs.Lines.{named}
use Rattle.program_listing.specs.Listing.{listing, refused_by}

-- how a call stopped
abbrev pub stop : Outcome → List ℕ
stop ended = codes " ended"
stop (paused q) = named " paused " q
stop (stopped n) = named " refused " n

abbrev pub call_line : ℕ → Outcome → List ℕ
call_line done o = named "steps " done ++ (stop o ++ codes "\n")

-- What follows the line of a call with so many steps done before: after a pause the next call, at the place that was reported; else the listing.
abbrev pub going_on : Outcome → ℕ → List ℕ → (ℕ → List ℕ) → List ℕ
going_on ended limit last next = last
going_on (paused q) limit last next = cond (eqb limit 0) last (next q)
going_on (stopped n) limit last next = last

abbrev pub summed : ℕ → Ending → List ℕ
summed before e = listing e.machine (before + e.done) (refused_by e.outcome)

-- A call with so many steps done before, and what goes on from the place at which it paused.
abbrev pub call : ℕ → ℕ → Ending → (ℕ → List ℕ) → List ℕ
call limit before e next = call_line e.done e.outcome ++ going_on e.outcome limit (summed before e) next

-- At most so many calls. A list has at most 256 steps, and a call that is paused under a limit of 1 or more does one, so that 257 are all; a limit of 0 would
-- never come to an end, so it is one call.
unfoldable pub calls : ℕ → List ℕ → ℕ → ℕ → ℕ → Machine → List ℕ
calls zero list place limit before m = []
calls (suc n) list place limit before m =
    call limit before (run list place limit m)
    (λ q. calls n list q limit (before + (run list place limit m).done) (run list place limit m).machine)

unfoldable pub lease_text : List ℕ → ℕ → ℕ → List ℕ
lease_text list place limit = calls 257 list place limit 0 start
