pub mod Copied
pub mod Answered
pub mod Theorems
