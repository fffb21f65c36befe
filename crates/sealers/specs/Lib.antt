pub mod Books
pub mod Faults
pub mod Keys
pub mod Lending
pub mod Sealing
