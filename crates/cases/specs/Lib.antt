pub mod Cases
pub mod Kinds
