pub mod Asked
pub mod Beyond
