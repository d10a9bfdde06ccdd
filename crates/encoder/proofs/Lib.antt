pub mod Laws
pub mod Stripes
pub mod Theorems
