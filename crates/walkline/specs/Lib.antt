-- definitions
pub mod Lines
-- laws
pub mod LinesLaws
