pub mod Digits
pub mod Insertion
pub mod Meeting
pub mod Sizes
