pub mod Causes
pub mod Fits
pub mod Range
pub mod Spelled
