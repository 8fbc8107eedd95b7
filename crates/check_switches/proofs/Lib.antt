pub mod ApartLaws
pub mod ConsLaws
pub mod FallLaws
pub mod OneLaws
pub mod RuleLaws
pub mod SwitchLaws
pub mod TakenLaws
