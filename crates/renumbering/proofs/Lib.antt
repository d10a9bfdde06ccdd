pub mod Matching
pub mod Alike
pub mod Codewords
pub mod Entries
pub mod Calls
pub mod Impostors
