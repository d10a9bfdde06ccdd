pub mod Shares
pub mod Adding
pub mod Changing
