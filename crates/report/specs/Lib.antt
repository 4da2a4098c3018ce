-- definitions
pub mod Text
pub mod Answers
-- laws
pub mod TextLaws
pub mod LineLaws
