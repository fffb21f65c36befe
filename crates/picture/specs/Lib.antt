pub mod Colours
pub mod Shapes
pub mod Pictures
