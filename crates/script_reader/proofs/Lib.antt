pub mod HoldsLaws
pub mod ItemLaws
pub mod NameLaws
pub mod RangeLaws
pub mod VerdictLaws
