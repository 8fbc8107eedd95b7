use Rattle.pawn_tree.specs.View.{stmt_view, case_view}
use Rattle.types_rules.specs.Counts.{objects_in, objects_in_case}
use Rattle.check_locals.proofs.SumLaws.{Summed}
use Rattle.check_locals.proofs.objects.+objects_in.Given as goal

abbrev pub invariant-objects_in_all-loop-i : goal.invariant-objects_in_all-loop-i
invariant-objects_in_all-loop-i l = Summed stmt_view objects_in l.items l.i l.count

abbrev pub invariant-objects_in_cases-loop-i : goal.invariant-objects_in_cases-loop-i
invariant-objects_in_cases-loop-i l = Summed case_view objects_in_case l.items l.i l.count
