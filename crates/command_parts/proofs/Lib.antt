pub mod FaultCountLaws
mod NumberLaws
pub mod ReadCallLaws
pub mod ReadLaws
pub mod ToldLaws
pub mod ValidLaws
mod WordLaws
