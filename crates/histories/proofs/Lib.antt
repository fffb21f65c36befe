pub mod Chains
pub mod Extension
pub mod Growth
pub mod Late
pub mod Order
pub mod Places
pub mod Posting
pub mod Rounds
