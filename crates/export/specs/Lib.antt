-- definitions
pub mod Exporting
-- laws
pub mod ExportingLaws
