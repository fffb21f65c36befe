pub mod Lists
pub mod Openings
pub mod Short
pub mod Full
pub mod FullScript
pub mod CalledOff
pub mod CalledOffScript
