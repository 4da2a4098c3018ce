-- definitions
pub mod Lines
-- laws
pub mod CountLaws
pub mod LinesLaws
