use Rattle.std.proofs.Common.{◌≡◌, ◌++◌, map, drop}
use Rattle.pawn_tree.specs.View.{decl_view}
use Rattle.types_rules.specs.Headings as spec
use Rattle.check_source.specs.HeadingView.{heading_view}
use Rattle.check_source.proofs.headings.make_headings.Given as goal

abbrev pub invariant-loop-i : goal.invariant-loop-i
invariant-loop-i l =
    map heading_view l.list ++ spec.headings (map decl_view (drop l.i l.items))
    ≡ spec.headings (map decl_view l.items)
