pub mod Enumerated
pub mod Laws
pub mod Answered
pub mod Theorems
pub mod Impostors
