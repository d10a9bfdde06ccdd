pub mod Ranks
pub mod Tables
pub mod Walks
pub mod Choosing
pub mod Laws
pub mod Called
pub mod Theorems
