pub mod Picked
pub mod Owned
pub mod Going
pub mod Stepping
