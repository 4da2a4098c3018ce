-- definitions
pub mod Words
pub mod Text
pub mod Parts
pub mod Statements
-- laws
pub mod WordsLaws
pub mod PartsLaws
