pub mod Rows
pub mod Bytes
pub mod Calls
pub mod Impostors
