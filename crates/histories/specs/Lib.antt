pub mod Histories
pub mod Places
pub mod Reads
pub mod Shapes
