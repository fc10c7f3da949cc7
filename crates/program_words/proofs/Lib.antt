pub mod Counts
pub mod Free
pub mod Pieces
pub mod Scans
