pub mod Calls
pub mod EntryFunction
pub mod OneLaw
pub mod OneRun
