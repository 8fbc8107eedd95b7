pub mod EnumLaws
pub mod FoldLaws
pub mod ItemLaws
pub mod MeaningLaws
pub mod ParamLaws
pub mod RuleLaws
pub mod TagLaws
