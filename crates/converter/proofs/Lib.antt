pub mod Answered
pub mod Theorems
