pub mod ApartLaws
pub mod CutLaws
pub mod ServeLaws
pub mod StartLaws
pub mod TurnLaws
