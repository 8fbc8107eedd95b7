pub mod Contents
pub mod Copied
pub mod Expanded
pub mod Lending
pub mod Loaded
pub mod Packed
