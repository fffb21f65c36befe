pub mod Faults
pub mod Lines
pub mod Turns
pub mod Steps
