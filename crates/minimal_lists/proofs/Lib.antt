pub mod Words
pub mod Looking
pub mod Placing
pub mod Filling
pub mod Turns
