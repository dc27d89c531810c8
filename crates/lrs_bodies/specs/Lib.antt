pub mod Media
pub mod Looks
pub mod DeskBodies
pub mod Bodies
