pub mod Table
pub mod Worked
pub mod Impostors
