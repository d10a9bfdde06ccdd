pub mod Marking
pub mod Entries
pub mod Counting
pub mod Passes
pub mod Keys
