pub mod Products
pub mod Joined
pub mod Made
pub mod Theorems
