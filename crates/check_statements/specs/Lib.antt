pub mod BodyJudging
pub mod SimpleJudging
pub mod StateView
