-- definitions
pub mod Restoring
-- laws
pub mod RestoringLaws
