-- the shelf examples
pub mod Cases
