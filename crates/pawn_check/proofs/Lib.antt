pub mod DeclaredLaws
pub mod FunctionNameLaws
pub mod NameFaultLaws
pub mod TogetherLaws
