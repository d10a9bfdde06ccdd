pub mod Peeling
pub mod Trays
pub mod Faults
pub mod Theorems
pub mod Impostors
