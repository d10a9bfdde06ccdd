pub mod Circuits
pub mod Theorems
pub mod Impostors
