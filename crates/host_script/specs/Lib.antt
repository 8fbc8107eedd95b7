pub mod Characters
pub mod NativeCall
pub mod Ranges
pub mod Script
pub mod Text
