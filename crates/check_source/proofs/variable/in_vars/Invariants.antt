use Rattle.pawn_tree.specs.View.{var_view}
use Rattle.types_rules.specs.CalledIn.{called_by_init}
use Rattle.check_source.specs.Adds.{AddsSoFar}
use Rattle.check_source.proofs.variable.in_vars.Given as goal

abbrev pub invariant-loop-i : goal.invariant-loop-i
invariant-loop-i l =
    AddsSoFar (λ x. called_by_init (var_view x).init) l.items l.initial.out l.i l.out
