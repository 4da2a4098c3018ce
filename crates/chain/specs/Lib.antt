pub mod Walking
pub mod Statements
pub mod WalkingLaws
pub mod CarriedLaws
pub mod Theorems
