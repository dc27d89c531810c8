pub mod Words
pub mod Units
pub mod Urls
pub mod SpelledNodes
pub mod Rules
pub mod Courses
pub mod Launches
pub mod Reasons
