pub mod Behind
pub mod DeclaredKind
pub mod Resolved
pub mod StepAnswers
