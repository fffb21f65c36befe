pub mod Faults
pub mod Queries
pub mod Replies
