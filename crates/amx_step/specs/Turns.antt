-- What one instruction did, in the words of the step's definition.
use Rattle.std.specs.Prelude.{◌≡◌}
use Rattle.amx_ops.specs.State.{Turned}
use Rattle.amx_ops.specs.State as step
use Rattle.amx_step.specs.Machine.{Machine}
use Rattle.amx_step.specs.declared.turn.Turn.{Turn}
use Rattle.amx_step.specs.declared.turn.Turn.TheVariants.{Goes, Errs, Halts, Asks}

-- from an old machine to a new one of the same file; an error leaves the old one
abbrev pub IsTurn : Turned → Machine → Turn → Machine → Type 0
IsTurn t old Goes new = (t ≡ step.Goes new.state) × (new.amx ≡ old.amx)
IsTurn t old (Errs code) new = (t ≡ step.Errs code) × (new ≡ old)
IsTurn t old (Halts code) new = (t ≡ step.Halts code new.state) × (new.amx ≡ old.amx)
IsTurn t old (Asks native) new = (t ≡ step.Asks native new.state) × (new.amx ≡ old.amx)
