pub mod Sets
pub mod Span
pub mod Padded
pub mod Within
pub mod Theorems
