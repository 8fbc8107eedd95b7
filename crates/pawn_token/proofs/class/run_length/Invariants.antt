use Rattle.std.proofs.Common.{◌≡◌, ℕ, ◌<◌, get_or, true}
use Rattle.pawn_token.specs.Class.{is_in}
use Rattle.pawn_token.proofs.class.run_length.Given as goal

abbrev pub invariant-loop-index : goal.invariant-loop-index
invariant-loop-index l = (k : ℕ) → k < l.index → is_in l.class (get_or l.bytes k 0) ≡ true
