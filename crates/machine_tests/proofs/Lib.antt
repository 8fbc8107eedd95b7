pub mod PlacedLaws
pub mod UpLaws
pub mod WritableLaws
