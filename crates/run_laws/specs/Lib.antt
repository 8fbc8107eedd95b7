pub mod RestorableSleeps
pub mod TraceOf
pub mod WholeAgreement
