-- How a native sees the arguments of a source, and what it does to the world. A form sees the part
-- that an argument refers to, and nothing beyond it; what doesn't fit is a stray access.
use Rattle.std.specs.Prelude.{ℕ, ℤ, List, [], ◌∷◌, Option, None, Some, length, take, nat_le}
use Rattle.std.specs.Prelude.{if◌then◌else◌}
use Rattle.host_script.specs.declared.script.Script.{Script}
use Rattle.host_script.specs.declared.script.Form.{Form}
use Rattle.host_script.specs.declared.script.Form.TheVariants as form
use Rattle.host_script.specs.declared.event.Event.{Event}
use Rattle.host_script.specs.declared.event.Seen.TheVariants as seen
use Rattle.host_script.specs.declared.event.End.{End}
use Rattle.host_script.specs.declared.event.End.TheVariants as end
use Rattle.host_script.specs.NativeCall.{Trap, Lost, Fault, Sight, Sees, Blind, Sought, Put, Called}
use Rattle.host_script.specs.NativeCall.{Ends_there, Answers, native_call}
use Rattle.host_script.specs.Script.{characters}
use Rattle.pawn_meaning.specs.Memory.{Memory, Name, Reference, read_cells, write_cells}
use Rattle.pawn_meaning.specs.World.{said}
use Rattle.pawn_meaning.specs.Run.{Gives, Stops, Run}

-- an argument that was evaluated: a value, or a reference to a part of an object
pub data Held : Type 0 where
  Value : ℤ → Held
  Refers : Reference → Held

-- where a native may write: an object and its first cell there
pub record Spot : Type 0 where
  pub object : Name
  pub at : ℕ

-- ---- what is seen

-- a stray access
abbrev pub lost : {A : Type 0} → Sight A
lost = Blind Lost

-- the cells of a part that is one cell or has one dimension; none of several dimensions
abbrev pub line_of : Reference → List ℕ → Memory → Option (List ℤ)
line_of r [] m = read_cells r.object r.at 1 m
line_of r (size ∷ []) m = read_cells r.object r.at size m
line_of r (size ∷ next ∷ inner) m = None

-- where a part begins
abbrev pub spot_of : Reference → Spot
spot_of r = record { object = r.object; at = r.at }

-- the first cell of a part
abbrev pub see_first : Reference → Option (List ℤ) → Sight (Sought Spot)
see_first r None = lost
see_first r (Some []) = lost
see_first r (Some (v ∷ cells)) =
    Sees (record { seen = seen.Ref v; hold = Some (record { at = spot_of r; cells = 1 }) })

-- its first so many cells
abbrev pub see_cells : Reference → Option (List ℤ) → ℕ → Sight (Sought Spot)
see_cells r None count = lost
see_cells r (Some cells) count =
    if nat_le count (length cells)
    then Sees (record {
      seen = seen.Cells (take count cells);
      hold = Some (record { at = spot_of r; cells = count });
    })
    else lost

-- a text with an end, as its characters
abbrev pub see_characters : Option (List ℤ) → Sight (Sought Spot)
see_characters None = lost
see_characters (Some text) = Sees (record { seen = seen.Text text; hold = None })

-- the text that begins a part and ends within it
abbrev pub see_text : Option (List ℤ) → Sight (Sought Spot)
see_text None = lost
see_text (Some cells) = see_characters (characters cells)

-- an argument by its form
abbrev pub see : Memory → Held → Form → Sight (Sought Spot)
see m (Value v) form.Cell = Sees (record { seen = seen.Cell v; hold = None })
see m (Value v) form.Ref = lost
see m (Value v) form.Text = lost
see m (Value v) (form.Cells count) = lost
see m (Refers r) form.Cell = lost
see m (Refers r) form.Ref = see_first r (line_of r r.sizes m)
see m (Refers r) form.Text = see_text (line_of r r.sizes m)
see m (Refers r) (form.Cells count) = see_cells r (line_of r r.sizes m) count

-- ---- what it does

-- how a refused call ends the run
abbrev pub end_of : Trap → End
end_of Lost = end.Stray
end_of (Fault code) = end.Error code

-- the writes of an answer, one after another
abbrev pub with_writes : List (Put Spot) → Option Memory → Option Memory
with_writes [] m = m
with_writes (put ∷ puts) None = None
with_writes (put ∷ puts) (Some m) =
    with_writes puts (write_cells put.to.object put.to.at put.values m)

-- the writes are done, the event is shown, and the result is the value
abbrev pub finished : Event → ℤ → ℕ → Option Memory → Run ℤ
finished event result position None = λ w. Stops end.Stray w
finished event result position (Some m) =
    λ w. Gives result (said event (record w { memory = m; position = position }))

-- behind a call the script stands at the position that the call tells, also where the run ends
abbrev pub after_call : Called Spot → Run ℤ
after_call (Ends_there trap position) = λ w. Stops (end_of trap) (record w { position = position })
after_call (Answers event result position puts) =
    λ w. finished event result position (with_writes puts (Some w.memory)) w

-- a call of a native by its name, with what was evaluated
abbrev pub call_native : Script → List ℕ → List Held → Run ℤ
call_native script name arguments =
    λ w. after_call (native_call script (see w.memory) name arguments w.position) w
