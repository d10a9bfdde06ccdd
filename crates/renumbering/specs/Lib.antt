pub mod Renumbering
pub mod Theorems
pub mod Impostors
