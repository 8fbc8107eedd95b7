-- Calls of functions: which body runs, the frame that it runs in, and how a statement is left.
use Rattle.std.specs.Prelude.{ℕ, ℤ, pos, List, ◌++◌, ◌-◌, Bool, true, false, ◌==◌, ◌&&◌, ◌||◌}
use Rattle.std.specs.Prelude.{Option, None, Some, is_some, slice_get, length, find, map, replicate}
use Rattle.std.specs.Prelude.{if◌then◌else◌}
use Rattle.host_script.specs.declared.event.End.TheVariants as end
use Rattle.pawn_meaning.specs.Program.{Stmt, Body, Route, Function, Automaton, Program}
use Rattle.pawn_meaning.specs.Memory.{Memory, Frame, Holds, Owns, PointsTo, Unmade, one_cell}
use Rattle.pawn_meaning.specs.Run.{Run, ◌>>=◌, give, or_stop, look, with_frame}
use Rattle.pawn_meaning.specs.Natives.{Held, Value, Refers}
use Rattle.pawn_meaning.specs.Need.{need}

-- how a statement is left: through its end, by `break`, `continue` or `return`
pub data Way : Type 0 where
  Through : Way
  Broke : Way
  Continued : Way
  Returned : ℤ → Way

-- goes on where the statement before was left through its end
abbrev pub pass : Way → Run Way → Run Way
pass Through go = go
pass Broke go = give Broke
pass Continued go = give Continued
pass (Returned v) go = give (Returned v)

-- goes on behind a pass of a loop
abbrev pub again : Way → Run Way → Run Way
again Through go = go
again Broke go = give Through
again Continued go = go
again (Returned v) go = give (Returned v)

-- a body left through its end gives 0
abbrev pub value_of : Way → ℤ
value_of Through = pos 0
value_of Broke = pos 0
value_of Continued = pos 0
value_of (Returned v) = v

-- ---- which body runs

-- the pair of a route with a state, the first of several
abbrev pub case_for : Route → ℕ → Option (ℕ × ℕ)
case_for route state = find (λ case. case.0 == state) route.cases

-- the number of a pair's body, else of the fallback
abbrev pub route_from : Route → Option (ℕ × ℕ) → Option ℕ
route_from route None = route.fallback
route_from route (Some case) = Some case.1

-- the number of the body for an automaton's state, else of the fallback
abbrev pub routed : Route → Option (Option ℕ) → Option ℕ
routed route None = route.fallback
routed route (Some None) = route.fallback
routed route (Some (Some state)) = route_from route (case_for route state)

-- a body by its number
abbrev pub body_at : Function → Option ℕ → Option Body
body_at function None = None
body_at function (Some number) = slice_get function.bodies number

-- a function without a route has one body
abbrev pub body_by : Function → Option Route → Memory → Option Body
body_by function None m = slice_get function.bodies 0
body_by function (Some route) m =
    body_at function (routed route (slice_get m.states route.automaton))

-- ---- the frame

-- what an argument leaves in its slot
abbrev pub held_in_slot : Held → Holds
held_in_slot (Value v) = Owns (one_cell v)
held_in_slot (Refers r) = PointsTo r

-- the slots of a body, none where there is no body
abbrev pub slots_of : Option Body → ℕ
slots_of None = 0
slots_of (Some body) = length body.slots

-- the first slots of a frame hold the arguments, and the others nothing yet
abbrev pub frame_of : ℕ → Function → List Held → Option Body → Frame
frame_of f function held body = record {
  function = f;
  need = need function;
  slots = map held_in_slot held ++ replicate (slots_of body - length held) Unmade;
}

-- ---- the call

-- in a frame of its own: error 13 where no body serves the state
abbrev pub run_body : (Stmt → Run Way) → Option Body → Run ℤ
run_body run body =
    or_stop body (end.Error (pos 13)) >>= (λ it. run it.stmt >>= (λ way. give (value_of way)))

-- a call of the function with this number, its turn being begun
abbrev pub enter_function : (Stmt → Run Way) → ℕ → Function → List Held → Run ℤ
enter_function run f function held =
    look (λ m. Some (body_by function function.dispatch m))
    >>= (λ body. with_frame (frame_of f function held body) (run_body run body))

-- ---- the entry function of an automaton

-- whether a function has a body for a state of an automaton, its fallback included
abbrev pub serves_by : Option Route → ℕ → ℕ → Bool
serves_by None automaton state = true
serves_by (Some route) automaton state =
    (route.automaton == automaton) && (is_some (case_for route state) || is_some route.fallback)

-- so for a function that may not be there
abbrev pub serves : Option Function → ℕ → ℕ → Bool
serves None automaton state = false
serves (Some function) automaton state = serves_by function.dispatch automaton state

-- the entry function of an automaton that may not be there
abbrev pub enter_of : Option Automaton → Option ℕ
enter_of None = None
enter_of (Some automaton) = automaton.enter

-- the function that a switch to a state calls, where there is one
abbrev pub entry_for : Program → ℕ → ℕ → Option ℕ → Option ℕ
entry_for program automaton state None = None
entry_for program automaton state (Some f) =
    if serves (slice_get program.functions f) automaton state then Some f else None
