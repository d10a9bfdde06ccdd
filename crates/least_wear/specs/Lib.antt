pub mod Reports
pub mod Forms
pub mod Theorems
