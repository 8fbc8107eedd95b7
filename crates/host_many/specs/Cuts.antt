-- Steps that are given in parts: they are those of the whole, and of a trace over its segments.
use Rattle.std.specs.Prelude.{◌≡◌, ◌+◌, ◌++◌, ℕ, ℤ, List, [], ◌∷◌, Option, None, Some, map}
use Rattle.host_script.specs.declared.script.Script.{Script}
use Rattle.host_script.specs.declared.event.End.{End}
use Rattle.host_script.specs.Text.{event_text}
use Rattle.amx_ops.specs.declared.amx.Amx.{Amx}
use Rattle.amx_ops.specs.State.{State}
use Rattle.amx_ops.specs.Moves.{Config, move}
use Rattle.amx_ops.specs.Runs.{Moved, Traced, Steps, Asleep, Over_by, segment}
use Rattle.amx_ops.specs.Trace.{begun, loaded, start_at, trace_from}
use Rattle.host_run.specs.declared.entry.TheConstants.{MAIN}
use Rattle.host_run.specs.Entry.{address_named}
use Rattle.host_many.specs.declared.standing.Standing.TheVariants.{Runs}
use Rattle.host_many.specs.declared.turn.Turn.{Turn}
use Rattle.host_many.specs.declared.turn.Turn.TheVariants.{Start, Go}
use Rattle.host_many.specs.Guests.{new_guest}
use Rattle.host_many.specs.Own.{Guest, own, segment_from, stop_lines, turned}

-- steps that were all used up, and further ones, are those of both together
abbrev pub StepsAddUp : Type 0
StepsAddUp = (g : Guest) (machine a b : ℕ) → g.standing ≡ Runs → (segment_from g a).stop ≡ Steps
    → own g (Go machine a ∷ Go machine b ∷ []) ≡ turned (Go machine (a + b)) g

-- ---- a whole run

-- the bounds of a trace: of its first segment, and of those behind its sleeps
pub record Bounds : Type 0 where
  pub first : ℕ
  pub others : List ℕ

-- steps are summed up to each sleep, and no further than the end
abbrev pub summed : (Config → Moved Config End) → Config → ℕ → List ℕ → Bounds
summed go c so_far [] = record { first = so_far; others = [] }
summed go c so_far (n ∷ steps) = elim (segment go n 0 c).stop [
  | Steps ↦ summed go (segment go n 0 c).config (so_far + n) steps
  | Asleep ↦ (let rest = summed go (segment go n 0 c).config 0 steps in
      record { first = so_far + n; others = rest.first ∷ rest.others })
  | Over_by e ↦ record { first = so_far + n; others = [] }
]

-- the bounds behind a start, if it found room
abbrev pub summed_from : Amx → Script → Option State → List ℕ → Bounds
summed_from amx script None steps = record { first = 0; others = [] }
summed_from amx script (Some s) steps = summed (move amx script) (begun s) 0 steps

-- the lines of a trace; no line tells that steps were used up
abbrev pub trace_lines : Traced Config End → List (List ℕ)
trace_lines t = map event_text t.config.events ++ stop_lines t.stop

-- those of a file that is started at main once, and given these steps one after another
abbrev pub main_lines : Amx → Script → ℕ → List ℕ → List (List ℕ)
main_lines amx script machine steps =
    (own (new_guest amx script) (Start machine MAIN ∷ map (λ n. Go machine n) steps)).lines

-- however its segments are cut, they are the lines of the file's trace
abbrev pub CutsPrintTheTrace : Type 0
CutsPrintTheTrace = (amx : Amx) (script : Script) (machine : ℕ) (steps : List ℕ) (address : ℤ)
    → address_named amx MAIN ≡ Some address
    → (let bounds = summed_from amx script
    (start_at amx address [] (loaded amx amx.room)) steps in
    main_lines amx script machine steps
    ≡ trace_lines (trace_from amx amx.room script address bounds.first bounds.others))
