pub mod Cabinets
pub mod Faults
pub mod Saved
