-- `recording::replay::replay` meets its contract. Assumes nothing.
use Rattle.std.proofs.Common.{◌≡◌, sym, ap, ◌∙◌, rules}
use Rattle.standard_refusal.specs.Number.{number_of}
use Rattle.recording_fields.specs.Definition.{refused}
use Rattle.recording_compare.specs.Verdict.{answer_of}
use Rattle.recording_layout.specs.Definition as layout
use Rattle.recording_layout.proofs.Files.{counted}
use Rattle.recording_rules.specs.Definition.{replay_judged, replay}
use Rattle.recording.proofs.replay.replay.Goals as goal

pub replay_records-requires-clause-n_bound : goal.replay_records-requires-clause-n_bound
replay_records-requires-clause-n_bound c = (counted c.args.file.now c.in_ok-n.n (sym c.in_ok-n.ensures)).0

pub replay_records-requires-clause-n_bound_2 : goal.replay_records-requires-clause-n_bound_2
replay_records-requires-clause-n_bound_2 c = (counted c.args.file.now c.in_ok-n.n (sym c.in_ok-n.ensures)).1

pub returns-in_err-n : goal.returns-in_err-n
unfolding replay
returns-in_err-n c =
    let e : answer_of c.from_residual.result ≡ refused (number_of c.in_err-n.field-0.0) = search rules in
    e ∙ ap (λ (x : layout.Judged). replay_judged x c.args.file.now) c.in_err-n.ensures

pub returns : goal.returns
unfolding replay
returns c = c.replay_records.ensures ∙ ap (λ (x : layout.Judged). replay_judged x c.args.file.now) c.in_ok-n.ensures
