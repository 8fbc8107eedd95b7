pub mod Bounded
pub mod Lending
pub mod Machine
pub mod Runs
pub mod Starts
pub mod Unseen
