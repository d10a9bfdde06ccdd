pub mod Printed
pub mod Theorems
