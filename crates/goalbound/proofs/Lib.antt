pub mod StretchLaws
pub mod FollowingLaws
pub mod Theorems
