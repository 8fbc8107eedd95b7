pub mod Declarations
pub mod Expressions
pub mod Height
pub mod Statements
pub mod Variables
pub mod View
