-- Where a machine fell asleep, it can be set to that state again: an image of it is taken.
use Rattle.std.specs.Prelude.{◌≡◌, ◌*◌, ℕ, length}
use Rattle.host_script.specs.declared.script.Script.{Script}
use Rattle.host_script.specs.declared.event.End.{End}
use Rattle.host_script.specs.Ranges.{IsScript}
use Rattle.pawn_meaning.specs.Program.{Program}
use Rattle.amx_ops.specs.declared.amx.Amx.{Amx}
use Rattle.amx_ops.specs.Keeps.{IsRunnable}
use Rattle.amx_ops.specs.Moves.{Config, move}
use Rattle.amx_ops.specs.Runs.{Asleep, Segmented, segment}
use Rattle.amx_ops.specs.State.{State}
use Rattle.amx_ops.specs.States.{IsState, IsRestorable}
use Rattle.gen_agrees.specs.Shape.{HasShape}

-- a file's machine under a script, from a configuration on, with one bound
abbrev pub segment_of : Amx → Script → ℕ → Config → Segmented Config End
segment_of amx script bound c = segment (move amx script) bound 0 c

-- the file can be run, the script and the state keep their form, and the segment falls asleep
pub record FallsAsleep (amx : Amx) (script : Script) (bound : ℕ) (c : Config) : Type 0 where
  pub runnable : IsRunnable amx
  pub script_is : IsScript script
  pub state : IsState amx c.state
  pub asleep : (segment_of amx script bound c).stop ≡ Asleep

-- the state stands behind the last instruction of the code
abbrev pub IsAtEnd : Amx → State → Type 0
IsAtEnd amx s = s.cip ≡ 4 * length amx.code

-- for every file, script, bound and configuration from which it falls asleep
pub record SleepsAreRestorable : Type 0 where
  -- its state can be set again, unless that sleep was the code's last instruction
  pub restorable : (amx : Amx) (script : Script) (bound : ℕ) (c : Config)
      → FallsAsleep amx script bound c
      → ¬ IsAtEnd amx (segment_of amx script bound c).config.state
      → IsRestorable amx (segment_of amx script bound c).config.state
  -- and in a file of a program's form always
  pub of_program : (program : Program) (amx : Amx) (script : Script) (bound : ℕ) (c : Config)
      → HasShape program amx → FallsAsleep amx script bound c
      → IsRestorable amx (segment_of amx script bound c).config.state
