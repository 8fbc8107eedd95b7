-- Where a segment leaves a machine.
use Rattle.std.specs.Prelude.{◌≡◌, ◌≢◌, ◌≤◌, ◌⊎◌, ℕ, pos}
use Rattle.host_script.specs.declared.event.End.{End}
use Rattle.host_script.specs.declared.event.End.TheVariants as end
use Rattle.amx_ops.specs.Moves.{Config}
use Rattle.amx_ops.specs.Runs.{Segmented, Stop, Steps, Asleep, Over_by}
use Rattle.amx_machine.specs.declared.mode.Mode.{Mode}
use Rattle.amx_machine.specs.declared.mode.Mode.TheVariants as mode
use Rattle.host_run.specs.Segments.{Place}

-- it is running or at a sleep
abbrev pub IsAwake : Mode → Type 0
IsAwake mode.Loaded = ⊥
IsAwake mode.Running = Unit {0}
IsAwake mode.Asleep = Unit {0}
IsAwake mode.Waiting = ⊥
IsAwake (mode.Halted code) = ⊥
IsAwake (mode.Failed code) = ⊥

-- ended by HALT 0 after a value of the entry, else by another halt or an error
abbrev pub IsEnded : End → Mode → Type 0
IsEnded (end.Done value) m = m ≡ mode.Halted (pos 0)
IsEnded (end.Exit value tag) m = m ≡ mode.Halted (pos 1)
IsEnded (end.Error code) m = ((m ≡ mode.Halted code) × (code ≢ pos 0)) ⊎ (m ≡ mode.Failed code)
IsEnded end.Stray m = ⊥

-- behind one step or more
abbrev pub IsLeft : Stop End → Mode → Type 0
IsLeft Steps m = m ≡ mode.Running
IsLeft Asleep m = m ≡ mode.Asleep
IsLeft (Over_by e) m = IsEnded e m

-- machine, position and count are the segment's; without a step the mode is what it was
pub record Stands (old : Place) (made : Segmented Config End) (count : ℕ)
    (new : Place) : Type 0 where
  pub file : new.machine.amx ≡ old.machine.amx
  pub state : new.machine.state ≡ made.config.state
  pub position : new.position ≡ made.config.position
  pub steps : count ≡ made.steps
  pub still : count ≡ 0 → new.machine.mode ≡ old.machine.mode
  pub mode : 1 ≤ count → IsLeft made.stop new.machine.mode
