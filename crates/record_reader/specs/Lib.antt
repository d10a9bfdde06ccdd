pub mod Passed
pub mod Reports
pub mod Theorems
