pub mod Vanishing
