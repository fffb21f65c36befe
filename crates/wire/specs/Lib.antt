pub mod Entries
pub mod Parties
pub mod Sets
pub mod Stamps
pub mod Texts
