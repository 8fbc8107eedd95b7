use Rattle.std.proofs.Common.{◌≡◌, drop, map, pos}
use Rattle.host_script.specs.Characters.{has_zero}
use Rattle.host_script.proofs.arguments.has_zero_byte.Given as goal

abbrev pub invariant-loop-byte : goal.invariant-loop-byte
invariant-loop-byte l = has_zero (map pos l.bytes) ≡ has_zero (map pos (drop l.byte-index l.bytes))
