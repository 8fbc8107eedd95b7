pub mod MachineLaws
pub mod ManyLaws
