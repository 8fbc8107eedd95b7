-- A plan and its text: lines of three words with one blank between them, each ended by byte 10;
-- first the machines by their files, then the events.
use Rattle.std.specs.Prelude.{◌≡◌, ◌≤◌, ◌<◌, ◌^◌, ◌++◌, ◌∷◌, ℕ, List, [], All, codes, length}
use Rattle.std.specs.Prelude.{map}
use Rattle.std.specs.Fmt.{decimal}
use Rattle.std.specs.List.{flat_map}
use Rattle.host_many.specs.declared.turn.Turn.{Turn}
use Rattle.host_many.specs.declared.turn.Turn.TheVariants.{Start, Go}
use Rattle.host_plan.specs.declared.plan.MachineFiles.{MachineFiles}
use Rattle.host_plan.specs.declared.plan.Plan.{Plan}
use Rattle.host_plan.specs.declared.plan.TheConstants.{MOST_MACHINES}
use Rattle.host_plan.specs.declared.word.TheConstants.{LONGEST_NAME}

-- ---- what stands in a plan

-- a byte that is printable and no blank
abbrev pub IsGraphic : ℕ → Type 0
IsGraphic byte = (33 ≤ byte) × (byte ≤ 126)

-- one or more of them
pub record IsWord (bytes : List ℕ) : Type 0 where
  pub some : 1 ≤ length bytes
  pub graphic : All IsGraphic bytes

-- one that isn't too long for a public's name
pub record IsName (bytes : List ℕ) : Type 0 where
  pub word : IsWord bytes
  pub short : length bytes ≤ LONGEST_NAME

-- a machine's files have names
pub record AreFiles (it : MachineFiles) : Type 0 where
  pub amx : IsWord it.amx
  pub script : IsWord it.script

-- an event is for one of so many machines
abbrev pub IsEventFor : ℕ → Turn → Type 0
IsEventFor count (Start machine name) = (machine < count) × IsName name
IsEventFor count (Go machine steps) = (machine < count) × (steps < 2 ^ 64)

-- some machines, but not too many, and events for them
pub record IsPlan (plan : Plan) : Type 0 where
  pub some : 1 ≤ length plan.machines
  pub few : length plan.machines ≤ MOST_MACHINES
  pub files : All AreFiles plan.machines
  pub events : All (IsEventFor (length plan.machines)) plan.events

-- ---- how it is spelled

-- three words with one blank between them
abbrev pub three_words : List ℕ → List ℕ → List ℕ → List ℕ
three_words first second third = first ++ (32 ∷ second ++ (32 ∷ third))

-- the line of a machine, without its byte 10
abbrev pub machine_line : MachineFiles → List ℕ
machine_line it = three_words (codes "machine") it.amx it.script

-- the line of an event
abbrev pub turn_line : Turn → List ℕ
turn_line (Start machine name) = three_words (codes "start") (decimal machine) name
turn_line (Go machine steps) = three_words (codes "go") (decimal machine) (decimal steps)

-- all lines of a plan
abbrev pub plan_lines : Plan → List (List ℕ)
plan_lines plan = map machine_line plan.machines ++ map turn_line plan.events

-- lines as they stand in a text
abbrev pub ended : List (List ℕ) → List ℕ
ended lines = flat_map (λ line. line ++ 10 ∷ []) lines

-- a text spells a plan
pub record Spells (text : List ℕ) (plan : Plan) : Type 0 where
  pub plan_is : IsPlan plan
  pub text_is : text ≡ ended (plan_lines plan)

-- before any line
abbrev pub no_lines : Plan
no_lines = record { machines = []; events = [] }
