pub mod BreakLaws
pub mod LineLaws
pub mod NextLaws
pub mod OneLaws
pub mod SideLaws
