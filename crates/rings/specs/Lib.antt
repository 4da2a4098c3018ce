-- definitions
pub mod Rings
