pub mod Laws
pub mod Tested
pub mod Putting
pub mod Theorems
