pub mod Named
pub mod Stripes
pub mod Theorems
