pub mod Bytes
pub mod Made
pub mod Membership
