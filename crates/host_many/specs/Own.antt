-- A machine of a file under a script among others: what its own events give. Its steps, its natives
-- and their lines are those of the segment that a session runs.
use Rattle.std.specs.Prelude.{◌++◌, ℕ, zero, suc, ℤ, pos, negsuc, List, [], ◌∷◌, Option, None, Some}
use Rattle.std.specs.Prelude.{codes, map}
use Rattle.host_script.specs.declared.script.Script.{Script}
use Rattle.host_script.specs.declared.event.End.{End}
use Rattle.host_script.specs.declared.event.End.TheVariants as end
use Rattle.host_script.specs.Text.{event_text, end_text}
use Rattle.amx_ops.specs.declared.amx.Amx.{Amx}
use Rattle.amx_ops.specs.State.{State}
use Rattle.amx_ops.specs.Moves.{Config, move}
use Rattle.amx_ops.specs.Runs.{Segmented, Stop, Steps, Asleep, Over_by, segment}
use Rattle.amx_ops.specs.Trace.{start_at}
use Rattle.host_run.specs.Entry.{address_named}
use Rattle.host_many.specs.declared.standing.Standing.{Standing}
use Rattle.host_many.specs.declared.standing.Standing.TheVariants.{Idle, Runs, Over}
use Rattle.host_many.specs.declared.turn.Turn.{Turn}
use Rattle.host_many.specs.declared.turn.Turn.TheVariants.{Start, Go}

-- a file and its script; the state of their machine, the script's position, and how it stands
pub record Guest : Type 0 where
  pub amx : Amx
  pub script : Script
  pub state : State
  pub position : ℕ
  pub standing : Standing

-- what events gave: lines, and the guest behind them
pub record Told : Type 0 where
  pub lines : List (List ℕ)
  pub guest : Guest

-- nothing is printed, and nothing changes
abbrev pub silent : Guest → Told
silent g = record { lines = []; guest = g }

-- one line alone
abbrev pub tells : List ℕ → Guest → Told
tells line g = record { lines = line ∷ []; guest = g }

-- ---- a start

-- it keeps its data, where the pushes find room
abbrev pub begun_by : Guest → Option State → Told
begun_by g None = tells (end_text (end.Error (pos 3))) g
begun_by g (Some s) = silent (record g { state = s; standing = Runs })

-- where the entry is there, without arguments
abbrev pub entered_at : Guest → Option ℤ → Told
entered_at g None = tells (codes "no entry\n") g
entered_at g (Some address) = begun_by g (start_at g.amx address [] g.state)

-- at an entry by its name, where it can be started
abbrev pub started : List ℕ → Standing → Guest → Told
started name Idle g = entered_at g (address_named g.amx name)
started name Runs g = tells (codes "busy\n") g
started name Over g = tells (codes "over\n") g

-- ---- steps

-- the segment from where it stands
abbrev pub segment_from : Guest → ℕ → Segmented Config End
segment_from g bound =
    segment (move g.amx g.script) bound 0
    (record { state = g.state; position = g.position; events = [] })

-- a line for an end; a sleep has had its own, and a bound that is used up has none
abbrev pub stop_lines : Stop End → List (List ℕ)
stop_lines Steps = []
stop_lines Asleep = []
stop_lines (Over_by e) = end_text e ∷ []

-- behind an end: only one that is done can be started again
abbrev pub standing_behind : End → Standing
standing_behind (end.Done value) = Idle
standing_behind (end.Exit value tag) = Over
standing_behind (end.Error code) = Over
standing_behind end.Stray = Over

-- behind a segment
abbrev pub standing_by : Stop End → Standing
standing_by Steps = Runs
standing_by Asleep = Runs
standing_by (Over_by e) = standing_behind e

-- the trace's lines, and where it leaves the machine and the position
abbrev pub gone_by : Guest → Segmented Config End → Told
gone_by g made = record {
  lines = map event_text made.config.events ++ stop_lines made.stop;
  guest = record g {
    state = made.config.state;
    position = made.config.position;
    standing = standing_by made.stop;
  };
}

-- at most so many steps, up to and with a sleep, an end or an error
abbrev pub gone : ℕ → Standing → Guest → Told
gone steps Idle g = silent g
gone steps Runs g = gone_by g (segment_from g steps)
gone steps Over g = silent g

-- ---- events

-- one event, whichever number its machine has
abbrev pub turned : Turn → Guest → Told
turned (Start machine name) g = started name g.standing g
turned (Go machine steps) g = gone steps g.standing g

-- lines in front of what follows
abbrev pub behind_lines : List (List ℕ) → Told → Told
behind_lines lines told = record { lines = lines ++ told.lines; guest = told.guest }

-- its own events, one after another
abbrev pub own : Guest → List Turn → Told
own g [] = silent g
own g (turn ∷ turns) = behind_lines (turned turn g).lines (own (turned turn g).guest turns)
