pub mod Placing
pub mod Turning
pub mod Answered
pub mod Theorems
