pub mod CallExamples
pub mod CharacterLaws
pub mod PlainLaws
pub mod ScriptExamples
pub mod TextLaws
