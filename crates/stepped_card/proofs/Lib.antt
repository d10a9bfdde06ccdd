pub mod Theorems
pub mod Laws
