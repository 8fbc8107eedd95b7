pub mod ChainLaws
pub mod SizeLaws
pub mod SleepLaws
pub mod StepLaws
pub mod WholeLaws
