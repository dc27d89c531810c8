pub mod Numbers
pub mod Plain
pub mod Named
pub mod Taken
