-- The laws about conditions that the crates above use.
pub use Rattle.pawn_pre.proofs.ValueLaws.{value_of_is, only_value}
