pub mod Agrees
pub mod AgreesOn
pub mod Gives
pub mod Shape
