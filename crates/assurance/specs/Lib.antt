pub mod Statements
pub mod Theorems
