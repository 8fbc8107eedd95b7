pub mod DispatchLaws
pub mod Examples
pub mod GrownLaws
pub mod KnownLaws
pub mod TwiceLaws
