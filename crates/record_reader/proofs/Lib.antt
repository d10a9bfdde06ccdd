pub mod Compared
pub mod LostSet
pub mod Heads
pub mod StripTests
pub mod Answers
pub mod Callers
pub mod Theorems
