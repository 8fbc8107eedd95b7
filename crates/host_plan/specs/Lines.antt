-- One line of a plan: how it is read, and whether it may stand behind those of a plan.
use Rattle.std.specs.Prelude.{◌≡◌, ◌≢◌, ◌<◌, ◌≤◌, ◌^◌, ◌++◌, ◌∷◌, ℕ, List, [], Bool, true, false}
use Rattle.std.specs.Prelude.{Option, None, Some, Result, Ok, Err, All, length}
use Rattle.pawn_base.specs.declared.memory.Memory.{Memory}
use Rattle.host_many.specs.declared.turn.Turn.{Turn}
use Rattle.host_many.specs.declared.turn.Turn.TheVariants.{Start, Go}
use Rattle.host_many.specs.Serves.{machine_of}
use Rattle.host_plan.specs.declared.line.Line.{Line}
use Rattle.host_plan.specs.declared.line.Line.TheVariants.{Machine, Event}
use Rattle.host_plan.specs.declared.plan.MachineFiles.{MachineFiles}
use Rattle.host_plan.specs.declared.plan.Plan.{Plan}
use Rattle.host_plan.specs.declared.plan.TheConstants.{MOST_MACHINES}
use Rattle.host_plan.specs.Plans.{AreFiles, IsEventFor, IsName, machine_line, turn_line}
use Rattle.host_plan.specs.Plans.{three_words}

-- a line without its byte 10
abbrev pub line_text : Line → List ℕ
line_text (Machine it) = machine_line it
line_text (Event turn) = turn_line turn

-- the numbers and the name of an event fit their fields
abbrev pub TurnFits : Turn → Type 0
TurnFits (Start machine name) = (machine < 2 ^ 32) × IsName name
TurnFits (Go machine steps) = (machine < 2 ^ 32) × (steps < 2 ^ 64)

-- what a line holds fits its fields
abbrev pub LineFits : Line → Type 0
LineFits (Machine it) = AreFiles it
LineFits (Event turn) = TurnFits turn

-- ---- how it is read

-- it is the line that the text is, or the text is none
abbrev pub ReadsLine : List ℕ → Result (Option Line) Memory → Type 0
ReadsLine text (Err fault) = Unit {0}
ReadsLine text (Ok None) = (it : Line) → LineFits it → text ≢ line_text it
ReadsLine text (Ok (Some it)) = LineFits it × (text ≡ line_text it)

-- by its three words, of which the first two have no blank
abbrev pub Reads : List ℕ → List ℕ → List ℕ → Result (Option Line) Memory → Type 0
Reads first second third result = ReadsLine (three_words first second third) result

-- ---- behind those of a plan

-- what was read of a plan so far
pub record IsDraft (plan : Plan) : Type 0 where
  pub few : length plan.machines ≤ MOST_MACHINES
  pub files : All AreFiles plan.machines
  pub events : All (IsEventFor (length plan.machines)) plan.events

-- machines stand before all events, and an event has one of them
abbrev pub Follows : Plan → Line → Type 0
Follows plan (Machine it) = (plan.events ≡ []) × (length plan.machines < MOST_MACHINES)
Follows plan (Event turn) = machine_of turn < length plan.machines

-- the plan with a line more
abbrev pub with_line : Plan → Line → Plan
with_line plan (Machine it) = record plan { machines = plan.machines ++ it ∷ [] }
with_line plan (Event turn) = record plan { events = plan.events ++ turn ∷ [] }

-- whether a line was taken
abbrev pub Takes : Line → Plan → Plan → Result Bool Memory → Type 0
Takes line old new (Err fault) = Unit {0}
Takes line old new (Ok true) = Follows old line × (new ≡ with_line old line)
Takes line old new (Ok false) = (¬ Follows old line) × (new ≡ old)

-- a text is a line that may stand there
pub record IsNext (text : List ℕ) (plan : Plan) (line : Line) : Type 0 where
  pub fits : LineFits line
  pub is : text ≡ line_text line
  pub follows : Follows plan line

-- whether a text was taken as a line
abbrev pub TakesText : List ℕ → Plan → Plan → Result Bool Memory → Type 0
TakesText text old new (Err fault) = Unit {0}
TakesText text old new (Ok true) =
    (line : Line) × IsNext text old line × (new ≡ with_line old line)
TakesText text old new (Ok false) = ((line : Line) → ¬ IsNext text old line) × (new ≡ old)
