pub mod Laws
pub mod Callers
