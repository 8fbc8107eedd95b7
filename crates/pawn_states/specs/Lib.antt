pub mod Classified
pub mod Classifier
pub mod Dispatch
pub mod Known
