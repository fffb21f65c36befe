pub mod Sip
pub mod Words
