-- The meaning of a whole program, as its host is told it: events, each with the turns and the peak
-- up to it, and in the end an outcome with its own.
use Rattle.std.specs.Prelude.{ℕ, zero, suc, List, [], ◌∷◌, Option, None, Some, map, slice_get}
use Rattle.host_script.specs.declared.script.Script.{Script}
use Rattle.host_script.specs.declared.event.Event.{Event}
use Rattle.host_script.specs.declared.event.End.{End}
use Rattle.host_script.specs.declared.event.End.TheVariants as end
use Rattle.pawn_meaning.specs.Program.{Stmt, Slot, Function, Program}
use Rattle.pawn_meaning.specs.World.{Entry, World, first_world}
use Rattle.pawn_meaning.specs.Run.{Outcome, Gives, Stops, More, Run, ◌>>=◌, stop}
use Rattle.pawn_meaning.specs.Calls.{Way, enter_function}
use Rattle.pawn_meaning.specs.Meaning.{Scene, run}

-- a statement with at most so many turns begun one within another
abbrev pub nested : Scene → ℕ → Stmt → Run Way
nested scene zero s = λ w. More w
nested scene (suc turns) s = run scene (nested scene turns) s

-- the run of the entry function, which itself uses no turn
abbrev pub entry_run : Scene → ℕ → Function → Run ⊥
entry_run scene f function = do
  v ← enter_function (run scene (nested scene scene.limit)) f function []
  stop (end.Done v)

-- an entry function with parameters is a stray access at once
abbrev pub without_params : Scene → ℕ → Function → List Slot → Run ⊥
without_params scene f function [] = entry_run scene f function
without_params scene f function (param ∷ params) = stop end.Stray

-- a function that isn't there is a stray access
abbrev pub entry_or_stray : Scene → ℕ → Option Function → Run ⊥
entry_or_stray scene f None = stop end.Stray
entry_or_stray scene f (Some function) = without_params scene f function function.params

-- the run of a program from the function with this number
abbrev pub whole : Scene → ℕ → Outcome ⊥
whole scene f =
    entry_or_stray scene f (slice_get scene.program.functions f) (first_world scene.program)

-- ---- what is told of it

-- an end, or the bound on turns
pub data Last : Type 0 where
  Ended : End → Last
  Cut : Last

-- entries, an outcome with its turns and peak, and the functions alive at each call
pub record Told : Type 0 where
  pub entries : List Entry
  pub last : Last
  pub turns : ℕ
  pub peak : ℕ
  pub chains : List (List ℕ)

-- what is told of a world at the end
abbrev pub told_by : Last → World → Told
told_by last w =
    record { entries = w.entries; last = last; turns = w.turns; peak = w.peak; chains = w.chains }

-- and of an outcome
abbrev pub told_of : Outcome ⊥ → Told
told_of (Gives a w) = elim a [ ]
told_of (Stops end w) = told_by (Ended end) w
told_of (More w) = told_by Cut w

-- a program with its script and bound
abbrev pub scene_of : Program → Script → ℕ → Scene
scene_of program script limit = record { program = program; script = script; limit = limit }

-- the meaning of a program with a script, from the function with this number, with at most so many
-- turns
abbrev pub meaning : Program → Script → ℕ → ℕ → Told
meaning program script f limit = told_of (whole (scene_of program script limit) f)

-- the events of entries
abbrev pub events_of : List Entry → List Event
events_of entries = map (λ entry. entry.event) entries
