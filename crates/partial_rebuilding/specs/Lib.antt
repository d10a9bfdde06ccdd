pub mod Faults
pub mod Theorems
pub mod Impostors
