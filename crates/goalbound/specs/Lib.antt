pub mod Following
pub mod Statements
