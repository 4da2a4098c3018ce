-- definition
pub mod FirstBlock
-- laws
pub mod FirstBlockLaws
