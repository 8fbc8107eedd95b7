pub mod LineLaws
pub mod WithinLaws
