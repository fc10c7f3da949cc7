-- Upto: a loop over a row, of elements of any type. Pairs: from the halves of a row to its vectors. Examples: of the definition.
pub mod Upto
pub mod Pairs
pub mod Examples
