pub mod Matching
pub mod Overloads
pub mod Tags
