pub mod LotCards
pub mod Shown
pub mod CardWords
