-- Judging: the judge's loop over the links. Lists: bytes, indices and partners. Folding: the folding's loop. Bytes: a chain over lists of bytes. Theorems: of
-- every chain, and of every list of indices. Examples: of the definition.
pub mod Judging
pub mod Lists
pub mod Folding
pub mod Bytes
pub mod Theorems
pub mod Examples
