pub mod Breaks
pub mod Lines
pub mod Plans
pub mod Words
