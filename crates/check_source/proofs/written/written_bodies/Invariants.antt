use Rattle.std.proofs.Common.{◌≡◌, ◌++◌, map, drop}
use Rattle.pawn_tree.specs.View.{decl_view}
use Rattle.types_rules.specs.Groups as spec
use Rattle.check_source.specs.WrittenView.{written_view}
use Rattle.check_source.proofs.written.written_bodies.Given as goal

abbrev pub invariant-loop-i : goal.invariant-loop-i
invariant-loop-i l =
    map written_view l.list ++ spec.written (map decl_view (drop l.i l.items))
    ≡ spec.written (map decl_view l.items)
