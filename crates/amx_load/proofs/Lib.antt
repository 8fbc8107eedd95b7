pub mod CellLaws
pub mod FileLaws
pub mod HoldLaws
pub mod PackedLaws
pub mod PlainLaws
