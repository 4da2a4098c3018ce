-- definitions
pub mod Logic
pub mod Bits
pub mod Bounded
pub mod Tables
-- laws
pub mod LogicLaws
pub mod BitsLaws
pub mod BoundedLaws
pub mod TablesLaws
pub mod FrontLaws
pub mod WalkLaws
