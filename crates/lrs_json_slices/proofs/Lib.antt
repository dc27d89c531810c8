pub mod Quotes
pub mod Closing
pub mod Fronts
pub mod Splits
pub mod Firsts
pub mod Nexts
