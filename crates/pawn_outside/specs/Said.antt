-- Bytes were written to a sink: all of them, or a prefix where it failed.
use Rattle.std.specs.Prelude.{◌≡◌, ◌+◌, ℕ, List, Option, Result, OnOk, OnErr, IsOk, length}
use Rattle.pawn_outside.specs.declared.fault.SinkFault.{SinkFault}
use Rattle.pawn_outside.specs.Rose.{risen}
use Rattle.pawn_outside.specs.Taken.{with_more, WroteFront}

-- for a sink with these bytes taken, this count of faults and this room, from its state before the
-- call to that after it
pub record Said {S : Type 0}
    (taken : S → Option (List ℕ)) (faults : S → ℕ) (has_room : S → ℕ → Type 0)
    (old new : S) (text : List ℕ) (result : Result (Unit {0}) SinkFault) : Type 0 where
  pub whole : OnOk result (taken new ≡ with_more (taken old) text)
  pub front : WroteFront (taken old) (taken new) text
  pub steady : OnOk result (faults new ≡ faults old)
  pub cause : OnErr result (faults new ≡ risen (faults old))
  pub unfailing : (rest : ℕ) → has_room old (length text + rest) → has_room new rest × IsOk result
