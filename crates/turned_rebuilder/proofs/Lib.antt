pub mod Slots
pub mod Restoring
pub mod Answered
