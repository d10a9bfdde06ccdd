pub mod Digits
pub mod Written
pub mod Pieces
pub mod Pens
pub mod Lengths
pub mod Answers
