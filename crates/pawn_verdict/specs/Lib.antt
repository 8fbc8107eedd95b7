pub mod Answers
pub mod SignViews
