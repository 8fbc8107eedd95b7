use Rattle.std.proofs.Common.{map, drop}
use Rattle.check_declarations.specs.DoneView.{bodied_view}
use Rattle.check_declarations.specs.Marks.{ReturnsAreMarked}
use Rattle.check_declarations.proofs.returns.returns_stand.Given as goal

abbrev pub invariant-loop-it : goal.invariant-loop-it
invariant-loop-it l =
    ReturnsAreMarked (map bodied_view l.bodies) (map bodied_view (drop l.it-index l.bodies))
    l.marks.items
