pub mod Turning
pub mod Faults
pub mod Theorems
pub mod Slots
pub mod Impostors
