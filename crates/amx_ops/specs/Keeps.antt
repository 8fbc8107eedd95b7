-- What keeps a state in its form.
use Rattle.std.specs.Prelude.{◌≡◌, ◌+◌, ◌*◌, ◌≤◌, ℕ, ℤ, pos, List, All, Some, length, map}
use Rattle.pawn_cells.specs.Cells.{IsCell}
use Rattle.host_script.specs.declared.script.Script.{Script}
use Rattle.host_script.specs.Ranges.{IsScript}
use Rattle.amx_ops.specs.declared.amx.Amx.{Amx}
use Rattle.amx_ops.specs.Writable.{memory_limit}
use Rattle.amx_ops.specs.Valid.{IsValid}
use Rattle.amx_ops.specs.State.{State, Turned, Goes, Errs, Halts, Asks, swept}
use Rattle.amx_ops.specs.States.{IsState}
use Rattle.amx_ops.specs.Step.{step}
use Rattle.amx_ops.specs.Runs.{Moved, Goes as Goes_on, Sleeps, Ends, joined}
use Rattle.amx_ops.specs.Moves.{Config, move, asked, arguments}
use Rattle.amx_ops.specs.Trace.{Entry, loaded, start, start_at}

-- a file that a machine can run: cells in their range, valid code, and no more of it than a machine
-- holds
pub record IsRunnable (amx : Amx) : Type 0 where
  pub code : All IsCell amx.code
  pub store : All IsCell amx.store
  pub size : 4 * length amx.code ≤ memory_limit
  pub valid : IsValid amx.code (length amx.natives) amx.entry (map (λ it. it.address) amx.publics)

-- what one instruction leaves keeps its form, and is 0 between heap and stack at a sleep; an error
-- leaves the state as it was
abbrev pub Leaves : Amx → Turned → Type 0
Leaves amx (Goes s) = IsState amx s
Leaves amx (Errs code) = Unit {0}
Leaves amx (Halts v s) = IsState amx s × (v ≡ pos 12 → swept s ≡ s)
Leaves amx (Asks n s) = IsState amx s

-- what a move comes to
abbrev pub reached : {C E : Type 0} → Moved C E → C
reached (Goes_on c) = c
reached (Sleeps c) = c
reached (Ends e c) = c

-- a load, a start, a step, the answer of a native, and all segments of a trace
pub record KeepsStates : Type 0 where
  pub loads : (amx : Amx) (room : ℕ) → IsRunnable amx → 4 * (length amx.store + room) ≤ memory_limit
      → IsState amx (loaded amx room)
  pub starts : (amx : Amx) (entry : Entry) (arguments : List ℤ) (s t : State) → IsRunnable amx
      → All IsCell arguments → IsState amx s
      → start amx entry arguments s ≡ Some t → IsState amx t
  pub starts_at : (amx : Amx) (address : ℤ) (arguments : List ℤ) (s t : State) → IsCell address
      → All IsCell arguments → IsState amx s
      → start_at amx address arguments s ≡ Some t → IsState amx t
  pub steps : (amx : Amx) (s : State) → IsRunnable amx → IsState amx s → Leaves amx (step amx s)
  -- a call of a native by a script that keeps its form
  pub answers : (amx : Amx) (script : Script) (name : List ℕ) (s : State) (c : Config)
      → IsScript script → IsState amx s
      → IsState amx (reached (asked script name (arguments s) s c)).state
  pub traces : (amx : Amx) (script : Script) (bound : ℕ) (bounds : List ℕ) (c : Config)
      → IsRunnable amx → IsScript script
      → IsState amx c.state → IsState amx (joined (move amx script) bound bounds c).config.state
