-- The laws about tokens that the crates above use.
pub use Rattle.pawn_token.proofs.OneLaws.{is_determined, token_one, token_not_fault}
pub use Rattle.pawn_token.proofs.OneLaws.{place_fault_one}
pub use Rattle.pawn_token.proofs.PlainLaws.{plain_seen}
pub use Rattle.pawn_token.proofs.SizeLaws.{token_shorter, token_takes, token_rest, fault_some}
pub use Rattle.pawn_token.proofs.SizeLaws.{past_blanks-le, blank_skipped, blank_stays}
