-- Numbers: from an operation on vectors to rows of them. Theorems: what follows from the promises.
pub mod Numbers
pub mod Theorems
