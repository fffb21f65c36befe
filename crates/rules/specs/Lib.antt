pub mod Genuine
pub mod Headings
pub mod Judged
pub mod Objections
pub mod Posts
pub mod Senders
