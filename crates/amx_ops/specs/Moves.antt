-- A step together with its natives: what a script sees, answers and writes on the machine.
use Rattle.std.specs.Prelude.{◌+◌, ◌/◌, ◌%◌, ◌++◌, ℕ, ℤ, pos, List, [], ◌∷◌, Bool, true, false}
use Rattle.std.specs.Prelude.{◌==◌, ◌&&◌, Option, None, Some, length, take, drop, nat_le, nat_lt}
use Rattle.std.specs.Prelude.{if◌then◌else◌, unwrap_or, slice_get, option_map}
use Rattle.pawn_cells.specs.Cells.{bits_of}
use Rattle.host_script.specs.declared.script.Script.{Script}
use Rattle.host_script.specs.declared.script.Form.{Form}
use Rattle.host_script.specs.declared.script.Form.TheVariants as form
use Rattle.host_script.specs.declared.event.Event.{Event}
use Rattle.host_script.specs.declared.event.Event.TheVariants as event
use Rattle.host_script.specs.declared.event.Seen.{Seen}
use Rattle.host_script.specs.declared.event.Seen.TheVariants as seen
use Rattle.host_script.specs.declared.event.End.{End}
use Rattle.host_script.specs.declared.event.End.TheVariants as end
use Rattle.host_script.specs.NativeCall.{Trap, Lost, Fault, Sight, Sees, Blind, Sought, Put, Called}
use Rattle.host_script.specs.NativeCall.{Ends_there, Answers, native_error, native_call}
use Rattle.host_script.specs.Script.{characters}
use Rattle.amx_ops.specs.declared.amx.Amx.{Amx}
use Rattle.amx_ops.specs.declared.amx.Record.{Record}
use Rattle.amx_ops.specs.Table.{is_number}
use Rattle.amx_ops.specs.State.{State, Turned, Goes, Errs, Halts, Asks, stp, cell_at}
use Rattle.amx_ops.specs.Step.{step}
use Rattle.amx_ops.specs.Runs.{Moved}
use Rattle.amx_ops.specs.Runs as run

-- the machine, the script's position and what the host was shown
pub record Config : Type 0 where
  pub state : State
  pub position : ℕ
  pub events : List Event

-- ---- what a native sees

-- the cells from an address up to the end of its live part: none where it isn't live, or no
-- multiple of 4
abbrev pub live_from : State → ℕ → List ℤ
live_from s address =
    if address % 4 == 0
    then (if nat_lt address s.hea then drop (address / 4) (take (s.hea / 4) s.cells)
    else (if nat_le s.stk address then drop (address / 4) s.cells else []))
    else []

-- what was seen at an address where so many cells are live
abbrev pub held_at : ℕ → ℕ → List ℤ → Seen → Sight (Sought ℕ)
held_at address count cells it =
    if nat_le count (length cells)
    then Sees (record { seen = it; hold = Some (record { at = address; cells = count }) })
    else Blind native_error

-- a text that has its end
abbrev pub read_text : Option (List ℤ) → Sight (Sought ℕ)
read_text None = Blind native_error
read_text (Some text) = Sees (record { seen = seen.Text text; hold = None })

-- the first of some cells
abbrev pub first_cell : List ℤ → ℤ
first_cell [] = pos 0
first_cell (cell ∷ cells) = cell

-- an argument by its form: a value, or an address
abbrev pub look : State → ℤ → Form → Sight (Sought ℕ)
look s v form.Cell = Sees (record { seen = seen.Cell v; hold = None })
look s v form.Ref =
    let cells = live_from s (bits_of v) in held_at (bits_of v) 1 cells (seen.Ref (first_cell cells))
look s v form.Text = read_text (characters (live_from s (bits_of v)))
look s v (form.Cells count) =
    let cells = live_from s (bits_of v) in
    held_at (bits_of v) count cells (seen.Cells (take count cells))

-- the arguments above their count of bytes, where all of it is live
abbrev pub arguments : State → Option (List ℤ)
arguments s =
    let bytes = bits_of (cell_at s s.stk) in
    if nat_lt s.stk (stp s) && (bytes % 4 == 0) && nat_le (s.stk + 4 + bytes) (stp s)
    then Some (take (bytes / 4) (drop (s.stk / 4 + 1) s.cells))
    else None

-- ---- what it does

-- the cells with one write
abbrev pub with_write : Put ℕ → List ℤ → List ℤ
with_write put cells =
    take (put.to / 4) cells ++ (put.values ++ drop (put.to / 4 + length put.values) cells)

-- with all writes, the first of them first
abbrev pub with_writes : List (Put ℕ) → List ℤ → List ℤ
with_writes [] cells = cells
with_writes (put ∷ puts) cells = with_writes puts (with_write put cells)

-- with an event behind those before
abbrev pub shown : Event → Config → Config
shown event c = record c { events = c.events ++ event ∷ [] }

-- the AMX error of a call that ends the run
abbrev pub error_of : Trap → ℤ
error_of Lost = pos 10
error_of (Fault code) = code

-- the machine waits behind the call with this state
abbrev pub answered : Called ℕ → State → Config → Moved Config End
answered (Ends_there trap position) s c =
    run.Ends (end.Error (error_of trap)) (record c { state = s; position = position })
answered (Answers event result position puts) s c =
    run.Goes (shown event (record c {
      state = record s { pri = result; cells = with_writes puts s.cells };
      position = position;
    }))

-- a native is called by its name, with its arguments where they can be read
abbrev pub asked : Script → List ℕ → Option (List ℤ) → State → Config → Moved Config End
asked script name None s c = run.Ends (end.Error (error_of native_error)) (record c { state = s })
asked script name (Some cells) s c =
    answered (native_call script (look s) name cells c.position) s c

-- the name of a native by its number
abbrev pub name_of : List Record → ℕ → List ℕ
name_of natives n = unwrap_or (option_map (λ it. it.name) (slice_get natives n)) []

-- HALT 0 is done, HALT 1 an exit, HALT 12 a sleep, and any other an error
abbrev pub halted_by : ℤ → Bool → Bool → Bool → State → Config → Moved Config End
halted_by v true b d s c = run.Ends (end.Done s.pri) (record c { state = s })
halted_by v false true d s c = run.Ends (end.Exit s.pri s.alt) (record c { state = s })
halted_by v false false true s c =
    run.Sleeps (shown (event.Slept s.pri s.alt) (record c { state = s }))
halted_by v false false false s c = run.Ends (end.Error v) (record c { state = s })

-- what a HALT comes to
abbrev pub halted : ℤ → State → Config → Moved Config End
halted v s c = halted_by v (is_number 0 v) (is_number 1 v) (is_number 12 v) s c

-- what the outcome of a step comes to
abbrev pub moved : Amx → Script → Config → Turned → Moved Config End
moved amx script c (Goes s) = run.Goes (record c { state = s })
moved amx script c (Errs code) = run.Ends (end.Error code) c
moved amx script c (Halts v s) = halted v s c
moved amx script c (Asks n s) = asked script (name_of amx.natives n) (arguments s) s c

-- one step, with the native that it calls
abbrev pub move : Amx → Script → Config → Moved Config End
move amx script c = moved amx script c (step amx c.state)
