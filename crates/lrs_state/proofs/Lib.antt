pub mod Counting
pub mod Keys
pub mod Changed
mod CourseIds
