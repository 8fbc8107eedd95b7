pub mod FunctionNames
pub mod Reads
pub mod TreeParts
pub mod View
