-- `program_scan::sought` meets its contract. Assumes nothing.
use Prim.Native.Nat.{◌+◌, ◌*◌, ◌-◌}
use mathlib.Core.Path.{sym}
use native.Mathlib.Omega.{arith}
use lib.ListN.{length}
use Rattle.finder_windows.specs.Definition.{bits, marker_bits}
use Rattle.program_scan.proofs.Search.{nowhere, head, near, beyond}
use Rattle.program_scan.proofs.sought.Goals as goal

pub returns-in_err-found : goal.returns-in_err-found
returns-in_err-found c =
    let given = c.args in record {
      within = rw c.from_residual.ensures (omega arith);
      sought = λ made. rw c.from_residual.ensures
          (nowhere (bits given.buffer.now) (marker_bits given.marker) given.tolerance given.frame
          (8 * length given.buffer.now - (given.frame + 31) - given.at) given.at given.end (omega arith) (omega arith) 11
          (sym (c.in_err-found.ensures (omega arith) (omega arith) (omega arith) made)));
    }

pub returns-then-found-at : goal.returns-then-found-at
returns-then-found-at c =
    let given = c.args in record {
      within = omega arith;
      sought = λ made. absurd (omega (
        arith,
        (head (bits given.buffer.now) (marker_bits given.marker) given.tolerance given.frame
            (8 * length given.buffer.now - (given.frame + 31) - given.at) given.at given.end (omega arith) (omega arith) _ _ _
            (sym (c.in_ok-found.ensures (omega arith) (omega arith) (omega arith) made))).low,
      ));
    }

pub returns-then-found-end : goal.returns-then-found-end
returns-then-found-end c =
    let given = c.args in record {
      within = omega arith;
      sought = λ made. beyond (bits given.buffer.now) (marker_bits given.marker) given.tolerance given.frame
          (8 * length given.buffer.now - (given.frame + 31) - given.at) given.at given.end (omega arith) (omega arith) _ _ _
          (sym (c.in_ok-found.ensures (omega arith) (omega arith) (omega arith) made))
          (omega arith);
    }

pub returns-then-found-gt8 : goal.returns-then-found-gt8
returns-then-found-gt8 c =
    let given = c.args in record {
      within = omega arith;
      sought = λ made. absurd (omega (
        arith,
        (near (bits given.buffer.now) (marker_bits given.marker) given.tolerance given.frame
            (8 * length given.buffer.now - (given.frame + 31) - given.at) given.at given.end (omega arith) (omega arith) _ _ _
            (sym (c.in_ok-found.ensures (omega arith) (omega arith) (omega arith) made))).0,
      ));
    }

pub returns-then-found-gt8-2 : goal.returns-then-found-gt8-2
returns-then-found-gt8-2 c =
    let given = c.args in record {
      within = omega arith;
      sought = λ made. absurd (omega (
        arith,
        (near (bits given.buffer.now) (marker_bits given.marker) given.tolerance given.frame
            (8 * length given.buffer.now - (given.frame + 31) - given.at) given.at given.end (omega arith) (omega arith) _ _ _
            (sym (c.in_ok-found.ensures (omega arith) (omega arith) (omega arith) made))).1,
      ));
    }

pub returns : goal.returns
returns c =
    let given = c.args in record {
      within = (omega arith, omega arith, omega arith, omega arith);
      sought = λ made. (head (bits given.buffer.now) (marker_bits given.marker) given.tolerance given.frame
          (8 * length given.buffer.now - (given.frame + 31) - given.at) given.at given.end (omega arith) (omega arith) _ _ _
          (sym (c.in_ok-found.ensures (omega arith) (omega arith) (omega arith) made))).only;
    }
