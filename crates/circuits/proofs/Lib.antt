pub mod Theorems
pub mod Impostors
