use Rattle.std.proofs.Common.{◌≡◌, drop}
use Rattle.pawn_states.specs.Dispatch.{automaton_named}
use Rattle.check_declarations.proofs.routes.automaton_named.Given as goal

abbrev pub invariant-loop-i : goal.invariant-loop-i
invariant-loop-i l = automaton_named l.clauses ≡ automaton_named (drop l.i l.clauses)
