pub mod Coded
pub mod Theorems
