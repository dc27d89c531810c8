pub mod Pieces
pub mod Inputs
