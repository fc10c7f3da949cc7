-- `program_forms::of_shape` meets its contract. Assumes nothing.
use Rattle.program_forms.proofs.of_shape.Goals as goal

pub returns-in-None : goal.returns-in-None
returns-in-None c = cc

pub returns-in-Constant : goal.returns-in-Constant
returns-in-Constant c = cc

pub returns-in-Shuffle : goal.returns-in-Shuffle
returns-in-Shuffle c = cc

pub returns-in-Unary : goal.returns-in-Unary
returns-in-Unary c = cc

pub returns-in-Binary : goal.returns-in-Binary
returns-in-Binary c = cc

pub returns-in-Ternary : goal.returns-in-Ternary
returns-in-Ternary c = cc

pub returns-in-Shift : goal.returns-in-Shift
returns-in-Shift c = cc

pub returns-in-Test : goal.returns-in-Test
returns-in-Test c = cc

pub returns-in-Splat : goal.returns-in-Splat
returns-in-Splat c = cc

pub returns-in-Extract : goal.returns-in-Extract
returns-in-Extract c = cc

pub returns-in-Replace : goal.returns-in-Replace
returns-in-Replace c = cc
