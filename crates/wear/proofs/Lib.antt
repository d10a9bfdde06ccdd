pub mod Sums
pub mod Picking
pub mod Left
pub mod Least
pub mod Theorems
pub mod Impostors
