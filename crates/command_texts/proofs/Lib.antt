pub mod FormLaws
pub mod TableLaws
