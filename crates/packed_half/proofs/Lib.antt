-- The laws of packed lanes, each over the width: Packed, on which the others rest, and one file for each family of operations.
pub mod Packed
pub mod Sum
pub mod Whole
pub mod Zero
pub mod Shifts
pub mod Mean
pub mod Ones
pub mod Signs
