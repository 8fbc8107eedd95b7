pub mod Cells
pub mod Constants
pub mod Operators
pub mod Signs
