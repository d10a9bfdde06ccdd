pub mod Converted
pub mod Apart
pub mod Theorems
pub mod Impostors
