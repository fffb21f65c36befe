pub mod Faults
pub mod Decisions
pub mod Steps
