use Rattle.std.proofs.Common.{◌≡◌, take}
use Rattle.host_run.specs.Bound.{natives_of}
use Rattle.host_run.proofs.bound.bound_natives.Given as goal

abbrev pub invariant-loop-native : goal.invariant-loop-native
invariant-loop-native l = l.bound ≡ natives_of l.script (take l.native-index l.natives)
