pub mod CaseView
pub mod Cased
pub mod Neighbours
pub mod Switching
