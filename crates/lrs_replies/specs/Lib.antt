pub mod Texts
pub mod Standings
pub mod Replies
