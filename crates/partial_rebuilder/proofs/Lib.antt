pub mod Answered
pub mod Restoring
pub mod Theorems
