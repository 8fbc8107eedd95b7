mod BoundedLaws
pub mod CleanLaws
mod FilledLaws
pub mod HaltLaws
mod LendLaws
pub mod PutLaws
pub mod RestLaws
pub mod RunLaws
pub mod SleepLaws
mod UnseenBlocks
mod UnseenEffects
mod UnseenLaws
mod UnseenParts
