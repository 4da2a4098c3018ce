pub mod RangeLaws
pub mod MadeLaws
