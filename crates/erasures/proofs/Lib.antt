pub mod Laws
pub mod Enumerated
pub mod Answered
pub mod Theorems
