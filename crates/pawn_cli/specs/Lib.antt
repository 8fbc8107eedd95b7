pub mod Answers
pub mod ReadsFile
pub mod Sizes
pub mod Texts
