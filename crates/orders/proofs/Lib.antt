pub mod Sorting
pub mod Writes
pub mod Ranks
pub mod Theorem
