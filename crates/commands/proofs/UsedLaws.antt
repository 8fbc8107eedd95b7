-- A text that is written with the line of its steps behind it, or without.
use Rattle.std.proofs.Common.{ℕ, List, Bool, true, false, Option, Ok, append-nil}
use Rattle.pawn_outside.specs.Said.{Said}
use Rattle.pawn_outside.proofs.SaidLaws.{said_as, said_then}
use Rattle.host_script.specs.declared.event.End.{End}
use Rattle.amx_ops.specs.Moves.{Config}
use Rattle.amx_ops.specs.Runs.{Traced}
use Rattle.command_parts.specs.declared.status.Status.{Status}
use Rattle.command_parts.specs.Told.{Told}
use Rattle.commands.specs.Counted.{before}
use Rattle.commands.specs.Finishes.{run_text}
use Rattle.commands.specs.Goes.{behind}
use Rattle.commands.specs.Played.{TellsTrace}
use Rattle.commands.specs.Used.{used_text, with_used}

module _ {S : Type 0} {taken : S → Option (List ℕ)} {faults : S → ℕ} {has_room : S → ℕ → Type 0}
  where
    -- a trace that is told with the text behind it
    pub told_used : (t : Traced Config End) (count : Bool) (steps : ℕ) {old new : S} {answer : Status}
        → TellsTrace t (before (used_text count steps) (Said taken faults has_room)) old new answer
        → TellsTrace t (with_used count steps (Said taken faults has_room)) old new answer
    told_used t false steps it = record {
      told = it.told;
      written = said_as (append-nil (run_text t.config t.stop)) it.written;
      is = it.is;
    }
    told_used t true steps it = it

    -- and behind other lines
    pub used_behind : {old mid : S} {front : List ℕ} (count : Bool) (steps : ℕ) (new : S)
        (text : List ℕ) (told : Told) → Said taken faults has_room old mid front (Ok tt)
        → with_used count steps (Said taken faults has_room) mid new text told
        → with_used count steps (behind front (Said taken faults has_room)) old new text told
    used_behind false steps new text told first rest = said_then first rest
    used_behind true steps new text told first rest = said_then first rest
