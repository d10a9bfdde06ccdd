pub mod Updating
pub mod Faults
pub mod Theorems
pub mod Impostors
