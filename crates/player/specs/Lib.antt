pub mod Statements
-- definitions
pub mod Given
pub mod Places
-- laws
pub mod LassoLaws
pub mod RowLaws
pub mod PlaceLaws
pub mod MarkLaws
pub mod RunLaws
pub mod PlayingLaws
pub mod AnswerLaws
pub mod Theorems
