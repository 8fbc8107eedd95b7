pub mod Forms
pub mod Natives
pub mod Reading
pub mod Replies
pub mod Rules
pub mod Verdict
