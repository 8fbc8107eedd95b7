mod AddLaws
mod ConstantLaws
pub mod FileLaws
mod IndexLaws
mod LinkLaws
pub mod MarkLaws
pub mod OperatorLaws
mod SizeLaws
