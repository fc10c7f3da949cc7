-- What C is handed of mending.
use Rattle.recording_mending_rules.specs.Definition as definition
use Rattle.link_station.specs.declared.mended.MendAnswer.{MendAnswer}

abbrev pub mended_of : MendAnswer → definition.Mending
mended_of m = record { refusal = m.refused; blocks = m.written; stopped = m.stopped; bits = m.bits }
