mod Lists
pub mod Told
mod Cutting
mod Doubt
pub mod Reading
mod Kept
mod Frames
mod Passing
mod Untouched
mod Creating
mod Opening
pub mod Unique
