pub mod Distances
pub mod Triangle
