use Rattle.std.proofs.Common.{◌≡◌, take}
use Rattle.host_run.specs.Bound.{names_of}
use Rattle.host_run.proofs.bound.names_of.Given as goal

abbrev pub invariant-loop-native : goal.invariant-loop-native
invariant-loop-native l = l.names ≡ names_of (take l.native-index l.natives)
