pub mod Numbers
pub mod Compared
