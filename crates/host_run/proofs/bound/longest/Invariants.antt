use Rattle.std.proofs.Common.{◌≤◌, length, take}
use Rattle.std.specs.Prelude.{All}
use Rattle.host_script.specs.declared.script.Native.{Native}
use Rattle.host_run.proofs.bound.longest.Given as goal

abbrev pub invariant-loop-native : goal.invariant-loop-native
invariant-loop-native l =
    All (λ (it : Native). length it.name ≤ l.most) (take l.native-index l.natives)
