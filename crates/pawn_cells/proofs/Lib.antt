pub mod CellLaws
mod CharacterLemmas
mod DivisionLemmas
