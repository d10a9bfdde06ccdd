pub mod Searches
pub mod Peels
pub mod Rules
pub mod Trays
pub mod Calls
pub mod Impostors
