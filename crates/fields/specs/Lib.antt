pub mod Parts
pub mod Numbers
pub mod Left
pub mod Printed
