pub mod ServesLaws
pub mod StartLaws
