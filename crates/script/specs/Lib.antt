pub mod Lines
pub mod Commands
pub mod Rows
pub mod Reports
