pub mod Outcomes
pub mod OutcomesLaws
