pub mod Slots
pub mod Turned
pub mod Sets
pub mod Filling
pub mod Calls
pub mod Unread
pub mod Impostors
