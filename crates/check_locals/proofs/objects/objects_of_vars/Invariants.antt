use Rattle.pawn_tree.specs.View.{var_view}
use Rattle.types_rules.specs.Counts.{objects_of_var}
use Rattle.check_locals.proofs.SumLaws.{Summed}
use Rattle.check_locals.proofs.objects.objects_of_vars.Given as goal

abbrev pub invariant-loop-i : goal.invariant-loop-i
invariant-loop-i l = Summed var_view (λ x. objects_of_var l.kind x) l.vars l.i l.count
