use Rattle.std.proofs.Common.{◌≡◌, take}
use Rattle.check_declarations.proofs.automata.list_of.Given as goal

abbrev pub invariant-loop-place : goal.invariant-loop-place
invariant-loop-place l = l.list ≡ take l.place l.names
