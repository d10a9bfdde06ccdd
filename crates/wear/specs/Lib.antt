pub mod Wear
pub mod Theorems
pub mod Impostors
