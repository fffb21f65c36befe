pub mod Worlds
pub mod Stepping
pub mod Seats
pub mod Setups
pub mod Views
pub mod Openings
pub mod Grown
