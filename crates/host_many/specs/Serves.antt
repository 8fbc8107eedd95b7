-- Events for the machines of a host, one after another.
use Rattle.std.specs.Prelude.{◌≡◌, ◌≤◌, ◌<◌, ◌++◌, ℕ, suc, List, [], ◌∷◌, Option, None, Some, All}
use Rattle.std.specs.Prelude.{codes, length, map, set, slice_get}
use Rattle.std.specs.Fmt.{decimal}
use Rattle.std.specs.List.{flat_map}
use Rattle.pawn_outside.specs.Taken.{with_more, WroteFront}
use Rattle.host_many.specs.declared.served.Served.{Served}
use Rattle.host_many.specs.declared.served.Served.TheVariants.{Done, SinkFault}
use Rattle.host_many.specs.declared.turn.Turn.{Turn}
use Rattle.host_many.specs.declared.turn.Turn.TheVariants.{Start, Go}
use Rattle.host_many.specs.Own.{Guest, Told, turned}

-- a line, and the number of the machine that it is of
pub record Line : Type 0 where
  pub machine : ℕ
  pub text : List ℕ

-- what stands in front of a machine's lines
abbrev pub front_of : ℕ → List ℕ
front_of machine = decimal machine ++ codes ": "

-- a line as it is printed
abbrev pub line_text : Line → List ℕ
line_text line = front_of line.machine ++ line.text

-- lines as they are printed
abbrev pub lines_text : List Line → List ℕ
lines_text lines = flat_map line_text lines

-- lines of one machine
abbrev pub numbered : ℕ → List (List ℕ) → List Line
numbered machine lines = map (λ text. record { machine = machine; text = text }) lines

-- the machine of an event
abbrev pub machine_of : Turn → ℕ
machine_of (Start machine name) = machine
machine_of (Go machine steps) = machine

-- what events gave: all lines in their order, and the machines behind them
pub record Serving : Type 0 where
  pub lines : List Line
  pub guests : List Guest

-- its machine takes what an event gave, and no other changes
abbrev pub with_told : ℕ → List Guest → Told → Serving
with_told machine guests told = record {
  lines = numbered machine told.lines;
  guests = set guests machine told.guest;
}

-- an event for the machine with its number, if there is one
abbrev pub served_by : Turn → List Guest → Option Guest → Serving
served_by turn guests None = record { lines = []; guests = guests }
served_by turn guests (Some g) = with_told (machine_of turn) guests (turned turn g)

-- one event
abbrev pub served_one : Turn → List Guest → Serving
served_one turn guests = served_by turn guests (slice_get guests (machine_of turn))

-- lines in front of what follows
abbrev pub behind_these : List Line → Serving → Serving
behind_these lines it = record { lines = lines ++ it.lines; guests = it.guests }

-- one event after another
abbrev pub served : List Guest → List Turn → Serving
served guests [] = record { lines = []; guests = guests }
served guests (turn ∷ turns) =
    behind_these (served_one turn guests).lines (served (served_one turn guests).guests turns)

-- the text that they print
abbrev pub served_text : List Guest → List Turn → List ℕ
served_text guests turns = lines_text (served guests turns).lines

-- each event has a machine
abbrev pub HasMachines : ℕ → List Turn → Type 0
HasMachines count turns = All (λ turn. machine_of turn < count) turns

-- ---- a sink that fails

-- an event up to and with one of its steps, and what of it comes before that step
pub data IsCut : Turn → List Turn → Turn → Type 0 where
  start : (machine : ℕ) (name : List ℕ) → IsCut (Start machine name) [] (Start machine name)
  go : (machine steps count : ℕ) → suc count ≤ steps
      → IsCut (Go machine steps) (Go machine count ∷ []) (Go machine (suc count))

-- the line of one step wasn't taken: all events before its event are done, of that one all up to
-- and with the step, and no later one; the sink has taken all lines before, and a front of that one
pub record IsCutOff (guests : List Guest) (turns : List Turn) (taken after : Option (List ℕ))
    (new : List Guest) : Type 0 where
  pub before : List Turn
  pub turn : Turn
  pub later : List Turn
  pub all : before ++ turn ∷ later ≡ turns
  pub earlier : List Turn
  pub done : Turn
  pub cut : IsCut turn earlier done
  pub guests_are : new ≡ (served guests (before ++ done ∷ [])).guests
  pub line : List ℕ
  pub shows : served_text guests (before ++ done ∷ [])
      ≡ served_text guests (before ++ earlier) ++ line
  pub some : 1 ≤ length line
  pub front : WroteFront (with_more taken (served_text guests (before ++ earlier))) after line

-- all events are done, or the sink failed at a line
abbrev pub Serves : List Guest → List Turn → Option (List ℕ) → Option (List ℕ) → Served
    → List Guest → Type 0
Serves guests turns taken after Done new = new ≡ (served guests turns).guests
Serves guests turns taken after SinkFault new = IsCutOff guests turns taken after new
