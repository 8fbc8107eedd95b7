pub mod Examples
pub mod NumberLaws
pub mod OverloadLaws
