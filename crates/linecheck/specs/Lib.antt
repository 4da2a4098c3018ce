-- definitions
pub mod Bounds
pub mod Reciprocal
-- laws
pub mod BoundsLaws
pub mod ReciprocalLaws
pub mod StartsLaws
