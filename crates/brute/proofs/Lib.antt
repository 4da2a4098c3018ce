pub mod EachLaws
pub mod WellLaws
