pub mod Tallies
pub mod Plans
pub mod Seen
pub mod Sums
