pub mod Statements
-- definitions
pub mod Lasso
pub mod Line
-- laws
pub mod LassoLaws
pub mod LineLaws
pub mod Theorems
