mod Examples
pub mod ExtendLaws
pub mod FaultLaws
pub mod KindLaws
pub mod MeantLaws
pub mod NameLaws
pub mod OneLaws
pub mod OrderLaws
pub mod PassLaws
pub mod PathLaws
pub mod ResolvedLaws
pub mod SightLaws
pub mod TakenLaws
