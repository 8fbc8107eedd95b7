pub mod Answers
pub mod Lines
pub mod Look
pub mod Within
