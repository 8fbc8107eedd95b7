pub mod Answers
pub mod Coded
pub mod Compiles
pub mod Lending
pub mod Slots
pub mod Sources
