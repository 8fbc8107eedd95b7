use Rattle.std.proofs.Common.{◌≡◌, ◌++◌, map, drop}
use Rattle.pawn_tree.specs.declared.name.StateName.{StateName}
use Rattle.check_functions.proofs.clauses.states_in.Given as goal

abbrev pub invariant-loop-it : goal.invariant-loop-it
invariant-loop-it l =
    l.list ++ map (λ (it : StateName). it.state.bytes) (drop l.it-index l.states)
    ≡ map (λ (it : StateName). it.state.bytes) l.states
