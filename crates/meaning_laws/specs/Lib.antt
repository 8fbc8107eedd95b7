pub mod MeaningWith
pub mod Missing
pub mod NothingIsMissing
pub mod NumbersAreInRange
