pub mod Converting
pub mod Theorems
pub mod Impostors
