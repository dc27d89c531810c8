pub mod Lent
pub mod Trees
pub mod Same
pub mod Supplied
pub mod Satisfied
