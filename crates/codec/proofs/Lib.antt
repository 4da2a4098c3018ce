pub mod ReaderLaws
pub mod ReadWriteLaws
pub mod WriteReadLaws
pub mod FileLaws
pub mod PlacesLaws
