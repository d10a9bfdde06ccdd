pub mod Decimal
pub mod Lines
pub mod Text
pub mod Places
pub mod Pens
pub mod Answers
