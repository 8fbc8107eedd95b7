pub mod Counting
pub mod HeadedView
pub mod ParamParts
pub mod SoFar
