pub mod Among
pub mod Cells
pub mod formers
