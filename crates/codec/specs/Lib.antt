-- definitions
pub mod Format
pub mod Reader
pub mod Writer
pub mod Answers
pub mod Outcomes
pub mod Loading
-- document 01's two sizes
pub mod Sizes
-- laws
pub mod NumberLaws
pub mod ListLaws
pub mod FrontLaws
pub mod FormatLaws
pub mod BlockLaws
pub mod WriterLaws
pub mod AnswersLaws
pub mod OutcomesLaws
-- the file laws
pub mod Statements
pub mod PayloadLaws
