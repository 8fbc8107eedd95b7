pub mod FileLaws
pub mod MemoryLaws
pub mod StartLaws
pub mod TextLaws
pub mod Values
pub mod WrittenLaws
