use Rattle.std.proofs.Common.{◌≡◌, ◌+◌, drop, map}
use Rattle.pawn_tree.specs.View.{param_view}
use Rattle.types_rules.specs.Declarations.{param_count}
use Rattle.check_declarations.proofs.slots.param_count.Given as goal

abbrev pub invariant-loop-i : goal.invariant-loop-i
invariant-loop-i l =
    l.count + param_count (map param_view (drop l.i l.params))
    ≡ param_count (map param_view l.params)
