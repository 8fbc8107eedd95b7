-- A file's machine, its starts, and its trace: started at main or a public, and run in segments
-- with a bound each.
use Rattle.std.specs.Prelude.{◌+◌, ◌-◌, ◌*◌, ◌/◌, ◌++◌, ℕ, ℤ, pos, negsuc, List, [], ◌∷◌, Option}
use Rattle.std.specs.Prelude.{None, Some, length, replicate, option_map, option_and_then, slice_get}
use Rattle.std.specs.Prelude.{slice_set, nat_le, if◌then◌else◌}
use Rattle.pawn_cells.specs.Cells.{bits_of, cell_of, equal}
use Rattle.host_script.specs.declared.script.Script.{Script}
use Rattle.host_script.specs.declared.event.End.{End}
use Rattle.host_script.specs.declared.event.End.TheVariants as end
use Rattle.amx_ops.specs.declared.amx.Amx.{Amx}
use Rattle.amx_ops.specs.State.{State, stp, first_hea}
use Rattle.amx_ops.specs.Runs.{Traced, Over_by, joined}
use Rattle.amx_ops.specs.Moves.{Config, move}

-- where a run begins
pub data Entry : Type 0 where
  Main : Entry
  Public : ℕ → Entry

-- the address of an entry, or none where there is no main, or no such public
abbrev pub address_of : Amx → Entry → Option ℤ
address_of amx Main = if equal amx.entry (negsuc 0) then None else Some amx.entry
address_of amx (Public n) = option_map (λ it. it.address) (slice_get amx.publics n)

-- the file with this room, before any start: the data, then zeros
abbrev pub loaded : Amx → ℕ → State
loaded amx room = record {
  pri = pos 0;
  alt = pos 0;
  frm = 0;
  cip = 0;
  stk = 4 * length amx.store + 4 * room;
  hea = 4 * length amx.store;
  cells = amx.store ++ replicate room (pos 0);
}

-- ---- starts

-- one cell pushed, where there is room above HEA
abbrev pub pushed_by : ℤ → Option State → Option State
pushed_by v None = None
pushed_by v (Some s) =
    if nat_le (s.hea + 4) s.stk
    then Some (record s { stk = s.stk - 4; cells = slice_set s.cells ((s.stk - 4) / 4) v })
    else None

-- some cells pushed from the last to the first, or nothing where one would go below HEA
abbrev pub pushed_all : List ℤ → State → Option State
pushed_all [] s = Some s
pushed_all (v ∷ vs) s = pushed_by v (pushed_all vs s)

-- all cells are kept; nothing is on the heap or the stack
abbrev pub fresh : Amx → ℤ → State → State
fresh amx address s = record {
  pri = pos 0;
  alt = pos 0;
  frm = 0;
  cip = bits_of address;
  stk = stp s;
  hea = first_hea amx;
  cells = s.cells;
}

-- at an address, with the arguments, the count of their bytes and the return address 0
abbrev pub start_at : Amx → ℤ → List ℤ → State → Option State
start_at amx address arguments s =
    pushed_all (pos 0 ∷ cell_of (4 * length arguments) ∷ arguments) (fresh amx address s)

-- a machine of a file started at an entry, whatever it did before
abbrev pub start : Amx → Entry → List ℤ → State → Option State
start amx entry arguments s =
    option_and_then (λ address. start_at amx address arguments s) (address_of amx entry)

-- ---- the trace

-- a state at the script's first answer, with nothing shown
abbrev pub begun : State → Config
begun s = record { state = s; position = 0; events = [] }

-- error 3 where the start finds no room
abbrev pub trace_by : Amx → Script → State → Option State → ℕ → List ℕ → Traced Config End
trace_by amx script idle (Some s) bound bounds = joined (move amx script) bound bounds (begun s)
trace_by amx script idle None bound bounds =
    record { stop = Over_by (end.Error (pos 3)); config = begun idle; bound = bound; steps = 0 }

-- the trace of a file with this room, started at an address
abbrev pub trace_from : Amx → ℕ → Script → ℤ → ℕ → List ℕ → Traced Config End
trace_from amx room script address bound bounds =
    trace_by amx script (loaded amx room) (start_at amx address [] (loaded amx room)) bound bounds
