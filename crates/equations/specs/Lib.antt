pub mod Reports
pub mod Parities
pub mod Theorems
pub mod Impostors
