pub mod Appends
pub mod Chunks
pub mod Codec
pub mod Loads
