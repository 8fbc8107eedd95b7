pub mod Answers
pub mod Block
pub mod BoxedNodes
pub mod NestedExpressions
pub mod NestedStatements
