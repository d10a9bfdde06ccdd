pub mod Finding
pub mod Passing
pub mod Stepping
