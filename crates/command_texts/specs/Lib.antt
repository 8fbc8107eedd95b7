pub mod Explained
pub mod Forms
pub mod Rows
