-- definitions
pub mod Decimal
pub mod Answers
-- laws
pub mod DecimalLaws
pub mod AppendLaws
pub mod DigitsLaws
pub mod PutLaws
pub mod EndsLaws
