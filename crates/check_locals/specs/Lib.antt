pub mod PointView
pub mod Rows
pub mod Single
pub mod StoodView
pub mod Tells
