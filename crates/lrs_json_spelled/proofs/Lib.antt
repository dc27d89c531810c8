pub mod Fronts
pub mod Pieces
pub mod Found
pub mod Again
pub mod Law
