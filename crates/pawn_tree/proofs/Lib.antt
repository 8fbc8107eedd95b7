pub mod HeightLaws
pub mod ViewLaws
