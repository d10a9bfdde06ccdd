pub mod Differing
pub mod Calls
pub mod Refusals
pub mod Whole
pub mod Impostors
