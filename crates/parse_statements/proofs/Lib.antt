pub mod ArgumentLaws
pub mod ExpressionKnotLaws
pub mod StatementKnotLaws
pub mod Turns
pub mod WordLaws
