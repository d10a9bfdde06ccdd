pub mod Codes
pub mod Columns
pub mod Editions
pub mod Reports
pub mod Theorems
