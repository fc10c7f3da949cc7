-- What the code's `Takes` stands for.
use Rattle.program_forms.specs.Forms.{Form}
use Rattle.program_forms.specs.declared.Takes.{Takes}

abbrev pub takes_of : Takes → Form
takes_of t = record { first = t.first; registers = t.registers; lanes = t.lanes; bytes = t.bytes }
