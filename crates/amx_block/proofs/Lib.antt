pub mod BlockLaws
pub mod CompareLaws
pub mod CopyLaws
pub mod ExpandLaws
pub mod ForCallers
pub mod LoadLaws
