pub mod Runs
pub mod Lent
pub mod Recorded
pub mod Theorems
pub mod WriterAnswers
