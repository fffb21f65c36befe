pub mod Slips
pub mod Chains
pub mod Turns
pub mod Steps
pub mod Texts
pub mod Marks
pub mod Opened
pub mod Playing
