pub mod Readings
pub mod Batches
pub mod StringBodies
pub mod SpelledNumbers
pub mod DeskBodies
pub mod OneBody
