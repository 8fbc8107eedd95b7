pub mod Machines
pub mod Many
