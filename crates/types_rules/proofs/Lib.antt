mod AutomatonExamples
mod CallExamples
mod DeclarationExamples
mod HeadExamples
pub mod LiteralLaws
pub mod PathLaws
mod ProgramLaws
pub mod Samples
mod SourceExamples
mod Spellings
mod StatementExamples
pub mod StatementLaws
mod ValueExamples
pub mod VerdictLaws
