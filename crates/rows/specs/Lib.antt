-- definitions
pub mod Rows
pub mod Folds
pub mod Largest
pub mod Entries
-- laws
pub mod RowsLaws
pub mod SetRowsLaws
pub mod LargestLaws
pub mod WriteLaws
