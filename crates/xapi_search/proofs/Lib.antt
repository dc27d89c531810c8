pub mod Narrowed
pub mod Asked
pub mod Cuts
pub mod Nearest
pub mod Leaps
pub mod Walked
