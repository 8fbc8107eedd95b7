-- One event of one machine, each of its lines behind the same front.
use Rattle.std.specs.Prelude.{◌≡◌, ◌≤◌, ◌++◌, ℕ, List, Option, Result, Ok, Err, length}
use Rattle.std.specs.List.{flat_map}
use Rattle.pawn_outside.specs.declared.fault.SinkFault.{SinkFault}
use Rattle.pawn_outside.specs.Taken.{with_more, WroteFront}
use Rattle.host_many.specs.declared.served.Served.{Served}
use Rattle.host_many.specs.declared.served.Served.TheVariants as served
use Rattle.host_many.specs.declared.turn.Turn.{Turn}
use Rattle.host_many.specs.Own.{Guest, own, turned}
use Rattle.host_many.specs.Serves.{IsCut}

-- each line behind the front
abbrev pub rows_text : List ℕ → List (List ℕ) → List ℕ
rows_text front lines = flat_map (λ line. front ++ line) lines

-- it was cut off at a line
pub record IsCutTurn (front : List ℕ) (turn : Turn) (old : Guest) (taken after : Option (List ℕ))
    (new : Guest) : Type 0 where
  pub earlier : List Turn
  pub done : Turn
  pub cut : IsCut turn earlier done
  pub guest_is : new ≡ (turned done old).guest
  pub line : List ℕ
  pub shows : rows_text front (turned done old).lines
      ≡ rows_text front (own old earlier).lines ++ line
  pub some : 1 ≤ length line
  pub partly : WroteFront (with_more taken (rows_text front (own old earlier).lines)) after line

-- the event is done, or the sink failed
abbrev pub TurnsSo : List ℕ → Turn → Guest → Option (List ℕ) → Option (List ℕ)
    → Result (Unit {0}) SinkFault → Guest → Type 0
TurnsSo front turn old taken after (Ok done) new = new ≡ (turned turn old).guest
TurnsSo front turn old taken after (Err fault) new = IsCutTurn front turn old taken after new

-- whether all events were served
abbrev pub told_of : Served → Result (Unit {0}) SinkFault
told_of served.Done = Ok tt
told_of served.SinkFault = Err (record {})
