pub mod Lists
pub mod Rule
pub mod Passes
pub mod Views
