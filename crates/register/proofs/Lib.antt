pub mod Changes
pub mod Shifts
pub mod FirstCards
pub mod Handing
pub mod Marks
pub mod Opening
pub mod Refusals
pub mod Quiet
