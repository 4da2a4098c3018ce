-- definitions
pub mod Watching
pub mod Statements
-- laws
pub mod WatchingLaws
pub mod Theorems
