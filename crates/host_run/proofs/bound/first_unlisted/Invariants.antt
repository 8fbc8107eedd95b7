use Rattle.std.proofs.Common.{◌≡◌, drop}
use Rattle.std.specs.Prelude.{is_none}
use Rattle.std.specs.List.{position_from}
use Rattle.host_run.specs.declared.bound.BoundNative.{BoundNative}
use Rattle.host_run.proofs.bound.first_unlisted.Given as goal

abbrev pub invariant-loop-number : goal.invariant-loop-number
invariant-loop-number l =
    position_from (λ (it : BoundNative). is_none it.entry) l.number (drop l.number l.natives)
    ≡ position_from (λ (it : BoundNative). is_none it.entry) 0 l.natives
