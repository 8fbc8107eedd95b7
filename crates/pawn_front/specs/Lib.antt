pub mod Checks
pub mod Compiled
pub mod Faults
pub mod Good
pub mod Means
pub mod OneProgram
pub mod Places
pub mod Sourced
