pub mod Systematic
pub mod Listed
