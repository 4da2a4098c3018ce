-- definitions
pub mod Playing
-- laws
pub mod PlayingLaws
