pub mod Records
pub mod Tapes
