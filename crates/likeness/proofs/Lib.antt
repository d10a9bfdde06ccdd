pub mod Counted
pub mod Answered
pub mod Theorems
