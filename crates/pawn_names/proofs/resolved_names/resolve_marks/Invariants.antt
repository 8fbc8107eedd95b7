use Rattle.std.proofs.Common.{take}
use Rattle.names_rules.specs.Around.{Around}
use Rattle.names_sight.specs.MarkView.{marks_view}
use Rattle.pawn_names.specs.Resolved.{Begins}
use Rattle.pawn_names.specs.Behind.{IsBehind}
use Rattle.pawn_names.proofs.resolved_names.resolve_marks.Given as goal

abbrev pub invariant-loop-i : goal.invariant-loop-i
invariant-loop-i l =
    (around : Around) → Begins around l.fn.context
    → IsBehind around (marks_view (take l.i l.marks)) l.resolver
