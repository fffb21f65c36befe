pub mod Kinds
pub mod Partial
pub mod Weights
pub mod BinWeights
pub mod Faults
pub mod Shown
pub mod WeightWords
pub mod Partials
