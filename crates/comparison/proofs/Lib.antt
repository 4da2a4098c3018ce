pub mod EqualLaws
pub mod RearLaws
pub mod SizeLaws
