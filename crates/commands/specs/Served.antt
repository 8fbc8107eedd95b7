-- Whether a script serves the natives of a file.
use Rattle.std.specs.Prelude.{◌≡◌, ℕ, None, Some, Result, Ok, Err}
use Rattle.host_script.specs.declared.script.Script.{Script}
use Rattle.amx_ops.specs.declared.amx.Amx.{Amx}
use Rattle.amx_ops.specs.Moves.{name_of}
use Rattle.host_run.specs.Bound.{Bound, bound_of, unserved}
use Rattle.command_parts.specs.declared.stop.Stop.{Stop}
use Rattle.command_parts.specs.declared.stop.Stop.TheVariants.{Unregistered, NoMemory}

-- a script serves a file's natives
abbrev pub AreServed : Amx → Script → Type 0
AreServed amx script = unserved script amx.natives ≡ None

-- the first native that isn't served, or want of memory
pub data HasUnserved (amx : Amx) (script : Script) : Stop → Type 0 where
  unregistered : (number : ℕ) → unserved script amx.natives ≡ Some number
      → HasUnserved amx script (Unregistered (name_of amx.natives number))
  no_memory : HasUnserved amx script NoMemory

-- ---- what the calls answer

-- the natives were bound, or one isn't served
abbrev pub AreBound : Amx → Script → Result Bound Stop → Type 0
AreBound amx script (Ok bound) = AreServed amx script × (bound ≡ bound_of script amx.natives)
AreBound amx script (Err stop) = HasUnserved amx script stop
