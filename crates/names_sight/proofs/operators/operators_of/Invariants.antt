use Rattle.std.proofs.Common.{◌≡◌, [], map, drop, length}
use Rattle.pawn_tree.specs.View.{decl_view}
use Rattle.names_rules.specs.Overloads.{overloads_of}
use Rattle.names_sight.proofs.operators.operators_of.Given as goal

abbrev pub invariant-loop-i : goal.invariant-loop-i
invariant-loop-i l =
    (overloads_of l.tags (map decl_view l.items) []
    ≡ overloads_of l.tags (map decl_view (drop l.i l.items)) l.defined.operators)
    × (l.defined.count ≡ length l.defined.operators)
