pub mod BracketLaws
pub mod TreeLaws
pub mod WordsLaws
