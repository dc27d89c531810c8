pub mod Endings
pub mod Printing
pub mod Reading
pub mod Asking
