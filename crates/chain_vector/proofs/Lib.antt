-- Links: a link of a chain over vectors. Theorems: a chain applied is one shuffle.
pub mod Links
pub mod Theorems
