pub mod BoxedDeclarations
pub mod Deep
pub mod Parses
pub mod Words
