pub mod Stepped
pub mod Rebuilt
