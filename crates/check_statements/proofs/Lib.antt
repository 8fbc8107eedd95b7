pub mod BlockLaws
mod MadeLaws
pub mod PlaceLaws
pub mod PointLaws
pub mod QuietLaws
pub mod StmtLaws
