-- What a row of the table does to a machine whose CIP is at its number.
use Rattle.std.specs.Prelude.{◌≡◌, ◌⊎◌, ◌+◌, ◌*◌, ◌/◌, ◌%◌, ◌<◌, ℕ, ℤ, pos, Option, None, Some}
use Rattle.std.specs.Prelude.{is_some, IsTrue, length}
use Rattle.std.specs.List.{slice_index_or}
use Rattle.pawn_cells.specs.Cells.{bits_of}
use Rattle.amx_ops.specs.declared.table.Operand.{Operand}
use Rattle.amx_ops.specs.declared.table.Operand.TheVariants as operand
use Rattle.amx_ops.specs.Table.{Row}
use Rattle.amx_ops.specs.State.{Turned, Errs}
use Rattle.amx_ops.specs.Step.{act}
use Rattle.amx_step.specs.Machine.{Machine}
use Rattle.amx_step.specs.Turns.{IsTurn}
use Rattle.amx_step.specs.declared.turn.Turn.{Turn}

-- the cell behind the one at CIP
abbrev pub next_cell : Machine → ℤ
next_cell m = slice_index_or m.amx.code (m.state.cip / 4 + 1) (pos 0)

-- an instruction without an operand has 0
abbrev pub operand_by : Operand → ℤ → ℤ
operand_by operand.Nothing v = pos 0
operand_by operand.AnyCell v = v
operand_by operand.ByteCount v = v
operand_by operand.Register v = v
operand_by operand.SetRegister v = v
operand_by operand.Multiple v = v
operand_by operand.Length v = v
operand_by operand.CellsLength v = v
operand_by operand.Target v = v
operand_by operand.Relative v = v
operand_by operand.NativeNumber v = v
operand_by operand.CaseTable v = v
operand_by operand.Cases v = v

-- the cells of an instruction with such an operand; a case table isn't executed
abbrev pub size_by : Operand → ℕ
size_by operand.Nothing = 1
size_by operand.AnyCell = 2
size_by operand.ByteCount = 2
size_by operand.Register = 2
size_by operand.SetRegister = 2
size_by operand.Multiple = 2
size_by operand.Length = 2
size_by operand.CellsLength = 2
size_by operand.Target = 2
size_by operand.Relative = 2
size_by operand.NativeNumber = 2
size_by operand.CaseTable = 2
size_by operand.Cases = 2

-- a cell that is no instruction's number is error 6
abbrev pub acts : Machine → Option Row → Turned
acts m None = Errs (pos 6)
acts m (Some row) =
    act m.amx row.op (operand_by row.operand (next_cell m))
    (m.state.cip + 4 * size_by row.operand) m.state

-- ---- what valid code gives

-- CIP is at a cell of the code
abbrev pub IsAt : Machine → Type 0
IsAt m = (m.state.cip % 4 ≡ 0) × (m.state.cip < 4 * length m.amx.code)

-- there is a cell of the code behind it
abbrev pub HasNext : Machine → Type 0
HasNext m = m.state.cip + 4 < 4 * length m.amx.code

-- its operand is there and is proper
abbrev pub IsReadyKind : Machine → Operand → Type 0
IsReadyKind m operand.Nothing = Unit {0}
IsReadyKind m operand.AnyCell = HasNext m
IsReadyKind m operand.ByteCount =
    HasNext m × ((next_cell m ≡ pos 1) ⊎ ((next_cell m ≡ pos 2) ⊎ (next_cell m ≡ pos 4)))
IsReadyKind m operand.Register = HasNext m
IsReadyKind m operand.SetRegister = HasNext m
IsReadyKind m operand.Multiple = HasNext m × (bits_of (next_cell m) % 4 ≡ 0)
IsReadyKind m operand.Length = HasNext m
IsReadyKind m operand.CellsLength = HasNext m
IsReadyKind m operand.Target = HasNext m
IsReadyKind m operand.Relative = HasNext m
IsReadyKind m operand.NativeNumber = HasNext m
IsReadyKind m operand.CaseTable = HasNext m
IsReadyKind m operand.Cases = Unit {0}

-- whether or not there is a row
abbrev pub IsReady : Machine → Option Row → Type 0
IsReady m None = Unit {0}
IsReady m (Some row) = IsReadyKind m row.operand

-- ---- what a group of rows did

-- nothing where the row isn't in the group; else the machine did what the row says
abbrev pub IsDone : Option Row → Machine → Option Turn → Machine → Type 0
IsDone row old None new = (row ≡ None) × (new ≡ old)
IsDone row old (Some turn) new = IsTrue (is_some row) × IsTurn (acts old row) old turn new
