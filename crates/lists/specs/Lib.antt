-- The meanings that the contracts cite.
pub mod Held
