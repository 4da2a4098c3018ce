-- definitions
pub mod Turns
pub mod Statements
-- laws
pub mod TurnsLaws
pub mod Theorems
