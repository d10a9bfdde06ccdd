pub mod OneStrip
pub mod Filling
pub mod Streamed
