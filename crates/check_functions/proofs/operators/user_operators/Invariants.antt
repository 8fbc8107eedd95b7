use Rattle.std.proofs.Common.{◌≡◌, ◌++◌, drop}
use Rattle.types_rules.specs.Sources as spec
use Rattle.check_source.specs.GroupsView.{groups_view}
use Rattle.check_source.specs.SourceView.{source_view}
use Rattle.check_functions.proofs.DistinctLaws.{AreOperators}
use Rattle.check_functions.proofs.operators.user_operators.Given as goal

abbrev pub invariant-loop-i : goal.invariant-loop-i
invariant-loop-i l =
    (l.operators ++ spec.operators_from (source_view l.source) l.i
    (drop l.i (groups_view l.source.groups))
    ≡ spec.operators_from (source_view l.source) 0 (groups_view l.source.groups))
    × AreOperators (groups_view l.source.groups) l.i l.operators
