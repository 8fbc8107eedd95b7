-- The steps of a meaning that ask for what may not be there, with an end of their own where it
-- isn't.
use Rattle.std.specs.Prelude.{ℕ, ℤ, List, [], ◌∷◌, Option, None, Some}
use Rattle.host_script.specs.declared.script.Script.{Script}
use Rattle.host_script.specs.declared.script.Form.{Form}
use Rattle.host_script.specs.declared.script.Form.TheVariants as form
use Rattle.host_script.specs.declared.event.Event.{Event}
use Rattle.host_script.specs.NativeCall.{Trap, Sight, Sees, Blind, Sought, Called, Ends_there}
use Rattle.host_script.specs.NativeCall.{Answers, with_sight, native_call}
use Rattle.pawn_meaning.specs.Memory.{Memory, Place, Cell, Character, Reference, read_cells}
use Rattle.pawn_meaning.specs.World.{said}
use Rattle.pawn_meaning.specs.Run.{Gives, Stops, Run, Done, done, give, stop, or_stop}
use Rattle.pawn_meaning.specs.Natives.{Held, Value, Refers, Spot, lost, see, see_first, see_cells}
use Rattle.pawn_meaning.specs.Natives.{see_text, end_of, with_writes}
use Rattle.pawn_meaning.specs.References.{to_cell}

module _ (missing : Trap) where
  -- what the memory has
  abbrev pub look_or : {A : Type 0} → (Memory → Option A) → Run A
  look_or f = λ w. or_stop (f w.memory) (end_of missing) w

  -- the memory in place of the old one
  abbrev pub changed_or : Option Memory → Run Done
  changed_or None = stop (end_of missing)
  changed_or (Some m) = λ w. Gives done (record w { memory = m })

  -- another memory
  abbrev pub change_or : (Memory → Option Memory) → Run Done
  change_or f = λ w. changed_or (f w.memory) w

  -- a reference to a place, which is a cell
  abbrev pub refers_or : Place → Run Held
  refers_or (Cell name i) = give (Refers (to_cell name i))
  refers_or (Character name i k) = stop (end_of missing)

  -- ---- natives

  -- cells that were read
  abbrev pub found_or : Option (List ℤ) → Sight (List ℤ)
  found_or None = Blind missing
  found_or (Some cells) = Sees cells

  -- the cells of a part; several dimensions have no form
  abbrev pub line_or : Reference → List ℕ → Memory → Sight (List ℤ)
  line_or r [] m = found_or (read_cells r.object r.at 1 m)
  line_or r (size ∷ []) m = found_or (read_cells r.object r.at size m)
  line_or r (size ∷ next ∷ inner) m = lost

  -- an argument by its form
  abbrev pub see_or : Memory → Held → Form → Sight (Sought Spot)
  see_or m (Value v) it = see m (Value v) it
  see_or m (Refers r) form.Cell = lost
  see_or m (Refers r) form.Ref =
      with_sight (line_or r r.sizes m) (λ cells. see_first r (Some cells))
  see_or m (Refers r) form.Text = with_sight (line_or r r.sizes m) (λ cells. see_text (Some cells))
  see_or m (Refers r) (form.Cells count) =
      with_sight (line_or r r.sizes m) (λ cells. see_cells r (Some cells) count)

  -- the writes are done, the event is shown, and the result is the value
  abbrev pub finished_or : Event → ℤ → ℕ → Option Memory → Run ℤ
  finished_or event result position None = λ w. Stops (end_of missing) w
  finished_or event result position (Some m) =
      λ w. Gives result (said event (record w { memory = m; position = position }))

  -- behind a call
  abbrev pub after_call_or : Called Spot → Run ℤ
  after_call_or (Ends_there trap position) =
      λ w. Stops (end_of trap) (record w { position = position })
  after_call_or (Answers event result position puts) =
      λ w. finished_or event result position (with_writes puts (Some w.memory)) w

  -- a call of a native by its name
  abbrev pub call_native_or : Script → List ℕ → List Held → Run ℤ
  call_native_or script name arguments =
      λ w. after_call_or (native_call script (see_or w.memory) name arguments w.position) w
