pub mod Cells
pub mod Compiled
pub mod Loads
pub mod Named
pub mod Saved
pub mod Sees
pub mod Shows
