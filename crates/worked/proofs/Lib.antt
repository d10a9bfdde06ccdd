pub mod Stripes
pub mod Worked
pub mod Impostors
