pub mod Forms
pub mod Reports
pub mod Theorems
