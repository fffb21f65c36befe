pub mod Cutting
pub mod Joining
pub mod Reading
pub mod Signs
pub mod Counting
