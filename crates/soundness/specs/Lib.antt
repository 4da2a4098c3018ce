pub mod Statements
-- general
pub mod Pigeonhole
pub mod Cycle
-- lassos and endless plays
pub mod Plays
pub mod PlayLaws
pub mod AnswerLaws
pub mod SoundLaws
pub mod PlayerLaws
pub mod UnreadLaws
pub mod Theorems
