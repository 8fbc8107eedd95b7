pub mod FaultLaws
pub mod ImageLaws
pub mod RestoreLaws
pub mod ResumeLaws
pub mod RowLaws
pub mod SaveLaws
