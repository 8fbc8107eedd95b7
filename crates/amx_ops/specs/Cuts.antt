-- A trace over bounds is one iteration, cut at each sleep and at each bound that is used up.
use Rattle.std.specs.Prelude.{◌≡◌, ◌+◌, ◌≤◌, ◌++◌, ℕ, suc, List, [], ◌∷◌, length, sum}
use Rattle.host_script.specs.declared.script.Script.{Script}
use Rattle.host_script.specs.declared.event.Event.{Event}
use Rattle.host_script.specs.declared.event.Event.TheVariants.{Native, Slept}
use Rattle.amx_ops.specs.declared.amx.Amx.{Amx}
use Rattle.amx_ops.specs.Runs.{Moved, Over, iterate, Stop, Steps, Asleep, Over_by, segment, Traced}
use Rattle.amx_ops.specs.Runs.{joined, sleeps}
use Rattle.amx_ops.specs.Moves.{Config, move}

-- after so many moves the iteration is where the trace stopped, or is over as the trace is
abbrev pub Leads : {C E : Type 0} → (C → Moved C E) → ℕ → C → Stop E → C → Type 0
Leads move total c Steps d = (k : ℕ) → iterate move (total + k) c ≡ iterate move k d
Leads move total c Asleep d = (k : ℕ) → iterate move (total + k) c ≡ iterate move k d
Leads move total c (Over_by e) d = (k : ℕ) → iterate move (total + k) c ≡ Over e d

-- a trace that stopped for want of steps did all of its last bound
abbrev pub Enough : {E : Type 0} → Stop E → ℕ → ℕ → Type 0
Enough Steps bound total = bound ≤ total
Enough Asleep bound total = Unit {0}
Enough (Over_by e) bound total = Unit {0}

-- each sleep but the last one begins a further bound: as many sleeps as bounds where the trace ends
-- asleep, fewer else
abbrev pub SleepsSo : {E : Type 0} → Stop E → ℕ → ℕ → Type 0
SleepsSo Steps count bounds = suc count ≤ bounds
SleepsSo Asleep count bounds = count ≡ bounds
SleepsSo (Over_by e) count bounds = suc count ≤ bounds

-- a trace over some bounds, one or more
pub record IsCut {C E : Type 0} (move : C → Moved C E) (c : C) (bounds : List ℕ)
    (t : Traced C E) : Type 0 where
  pub leads : Leads move t.steps c t.stop t.config
  pub enough : Enough t.stop t.bound t.steps
  pub sleeps_so : SleepsSo t.stop (sleeps move t.steps c) (length bounds)
  pub within : t.steps ≤ sum bounds

-- ---- what is shown

-- how many events are sleeps
abbrev pub slept_in : List Event → ℕ
slept_in [] = 0
slept_in (Native name seen result ∷ events) = slept_in events
slept_in (Slept value tag ∷ events) = suc (slept_in events)

-- a configuration that showed some events before
abbrev pub showing : List Event → Config → Config
showing events c = record c { events = events ++ c.events }

-- for each file, script, list of bounds and configuration
pub record TraceIsOneIteration : Type 0 where
  pub cut : (amx : Amx) (script : Script) (bound : ℕ) (bounds : List ℕ) (c : Config)
      → IsCut (move amx script) c (bound ∷ bounds) (joined (move amx script) bound bounds c)
  -- each sleep is shown, by one event
  pub shown : (amx : Amx) (script : Script) (bound : ℕ) (bounds : List ℕ) (c : Config)
      → slept_in (joined (move amx script) bound bounds c).config.events
      ≡ slept_in c.events + sleeps (move amx script)
      (joined (move amx script) bound bounds c).steps c
  -- what was shown before changes nothing
  pub resumed : (amx : Amx) (script : Script) (bound : ℕ) (events : List Event) (c : Config)
      → segment (move amx script) bound 0 (showing events c)
      ≡ (let s = segment (move amx script) bound 0 c in record
      { stop = s.stop; config = showing events s.config; steps = s.steps })
