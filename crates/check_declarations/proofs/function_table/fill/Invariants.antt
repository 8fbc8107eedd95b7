use Rattle.std.proofs.Common.{◌≡◌, map}
use Rattle.std.specs.Vec.Iter.{into_iter_items}
use Rattle.pawn_meaning.specs.View.{function_view}
use Rattle.check_declarations.specs.DoneView.{bodied_view}
use Rattle.check_declarations.specs.Filled.{filled}
use Rattle.check_declarations.proofs.function_table.fill.Given as goal

abbrev pub invariant-loop-it : goal.invariant-loop-it
invariant-loop-it l =
    filled (map function_view l.functions.items) (map bodied_view (into_iter_items l.it-iterator))
    ≡ filled (map function_view l.initial.functions.items) (map bodied_view l.fn.bodies.items)
