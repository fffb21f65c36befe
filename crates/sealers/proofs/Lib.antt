pub mod KeyRows
pub mod Rows
pub mod Sealing
pub mod Shares
