-- What C is handed of a scan, as plain numbers: which state, which bytes taken and which meeting they stand for.
use Rattle.std.specs.Prelude.{cond, Some, None}
use Rattle.capture_history.specs.declared.Scan.{Scan}
use Rattle.capture_history.specs.declared.Next.{Next}
use Rattle.capture_history.specs.declared.Fed.{Fed}
use Rattle.link_scan.specs.declared.ScanState.{ScanState}
use Rattle.link_scan.specs.declared.FedState.{FedState}
use Rattle.link_scan.specs.declared.MeetingOrNone.{MeetingOrNone}

abbrev pub scan_in : ScanState → Scan
scan_in s = record { before = s.before; filled = s.filled; from = s.from }

abbrev pub fed_in : FedState → Fed
fed_in r = record { used = r.used; scan = scan_in r.state }

abbrev pub next_in : MeetingOrNone → Next
next_in r = record {
  meeting = cond r.met (Some (record { position = r.position; first = r.first; second = r.second })) None;
  scan = scan_in r.state;
}
