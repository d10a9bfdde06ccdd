pub mod Patched
pub mod Named
