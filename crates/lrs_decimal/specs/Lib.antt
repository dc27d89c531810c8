pub mod Numbers
pub mod Parts
pub mod Range
pub mod Values
pub mod Fronts
