-- The segment of a machine from where it stands, under a script and a bound, and its text.
use Rattle.std.specs.Prelude.{◌++◌, ℕ, List, []}
use Rattle.std.specs.List.{flat_map}
use Rattle.host_script.specs.declared.script.Script.{Script}
use Rattle.host_script.specs.declared.event.Event.{Event}
use Rattle.host_script.specs.declared.event.End.{End}
use Rattle.host_script.specs.Text.{event_text, end_text}
use Rattle.amx_ops.specs.Moves.{Config, move}
use Rattle.amx_ops.specs.Runs.{Segmented, Stop, Steps, Asleep, Over_by, segment}
use Rattle.amx_machine.specs.Machine.{Machine}

-- where a session stands: its machine, and the script's position
pub record Place : Type 0 where
  pub machine : Machine
  pub position : ℕ

-- nothing was shown yet
abbrev pub begun : Place → Config
begun p = record { state = p.machine.state; position = p.position; events = [] }

-- the segment from there on with a bound
abbrev pub segment_of : Script → Place → ℕ → Segmented Config End
segment_of script p bound = segment (move p.machine.amx script) bound 0 (begun p)

-- ---- its text

-- a line for each event, each behind the same front
abbrev pub lines_behind : List ℕ → List Event → List ℕ
lines_behind front events = flat_map (λ event. front ++ event_text event) events

-- a sleep and a bound that is used up have no line of their own
abbrev pub stop_behind : List ℕ → Stop End → List ℕ
stop_behind front Steps = []
stop_behind front Asleep = []
stop_behind front (Over_by e) = front ++ end_text e

-- its events, and its end
abbrev pub text_behind : List ℕ → Segmented Config End → List ℕ
text_behind front made =
    lines_behind front made.config.events ++ stop_behind front made.stop

-- ---- with nothing in front

-- a line for each event
abbrev pub lines_of : List Event → List ℕ
lines_of events = lines_behind [] events

-- the line of an end
abbrev pub stop_text : Stop End → List ℕ
stop_text stop = stop_behind [] stop

-- its events, and its end
abbrev pub text_of : Segmented Config End → List ℕ
text_of made = text_behind [] made
