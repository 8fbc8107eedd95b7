use Rattle.std.proofs.Common.{ℕ, List}
use Rattle.pawn_tree.specs.View.{item_view}
use Rattle.names_rules.specs.FileNames.{FileName, item_names}
use Rattle.names_sight.specs.Steps.{IsWhole}
use Rattle.names_sight.proofs.AddLaws.{AddedSoFar}
use Rattle.names_sight.proofs.outside.FileNames.add_items.Given as goal

abbrev pub invariant-loop-i : goal.invariant-loop-i
invariant-loop-i l =
    (tags : List (List ℕ)) (before : List FileName) → IsWhole tags before l.initial.self
    → AddedSoFar item_view (item_names l.place) tags l.items before l.i l.self
