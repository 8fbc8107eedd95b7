pub mod KeyLaws
pub mod StableSort
