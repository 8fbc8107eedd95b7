-- The lines of a table, and what is said behind them.
use Rattle.std.proofs.Common.{◌≡◌, ◌++◌, ℕ, List, Option, Result, Ok, ap}
use Rattle.pawn_outside.specs.declared.fault.SinkFault.{SinkFault}
use Rattle.pawn_outside.specs.Said.{Said}
use Rattle.pawn_outside.proofs.SaidLaws.{said_as, said_then}
use Rattle.amx_ops.specs.declared.amx.Record.{Record}
use Rattle.amx_text.specs.Listing.{record_lines}

module _ {S : Type 0} {taken : S → Option (List ℕ)} {faults : S → ℕ}
    {has_room : S → ℕ → Type 0} where
  pub after_records : {old mid new : S} {a b : List Record} {rest : List ℕ} {done : Unit {0}}
      {result : Result (Unit {0}) SinkFault} (kind : List ℕ) → a ≡ b
      → Said taken faults has_room old mid (record_lines kind a) (Ok done)
      → Said taken faults has_room mid new rest result
      → Said taken faults has_room old new (record_lines kind b ++ rest) result
  after_records kind e first second = said_then (said_as (ap (record_lines kind) e) first) second
