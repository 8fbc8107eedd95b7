pub mod CellBytes
pub mod Done
pub mod Groups
pub mod Hosting
pub mod Lending
pub mod Machine
pub mod Runs
pub mod Turns
