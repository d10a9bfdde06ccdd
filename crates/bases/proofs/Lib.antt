pub mod Adding
pub mod Systematic
