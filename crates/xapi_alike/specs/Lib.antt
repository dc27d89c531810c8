pub mod Roles
pub mod Normal
pub mod Alike
pub mod Steps
pub mod Ranks
pub mod Same
