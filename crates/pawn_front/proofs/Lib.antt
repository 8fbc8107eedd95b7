pub mod CheckLaws
pub mod CompileLaws
pub mod MakingLaws
pub mod SizeLaws
pub mod SourceLaws
pub mod SourcedLaws
pub mod StartLaws
