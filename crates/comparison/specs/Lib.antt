-- definitions
pub mod Answers
pub mod Tallies
pub mod Tables
pub mod Lassos
pub mod Turns
pub mod Pairs
-- laws
pub mod AnswersLaws
pub mod TablesLaws
pub mod LassosLaws
pub mod TurnsLaws
pub mod PairsLaws
pub mod TalliesLaws
