pub mod Stepped
pub mod Faults
pub mod Placing
pub mod Theorems
pub mod Impostors
