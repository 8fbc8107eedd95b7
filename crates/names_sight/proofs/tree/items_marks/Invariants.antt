use Rattle.std.proofs.Common.{option_map}
use Rattle.names_sight.specs.MarkView.{marks_view}
use Rattle.names_sight.proofs.MarkLaws.{ItemsPassed}
use Rattle.names_sight.proofs.tree.items_marks.Given as goal

abbrev pub invariant-loop-i : goal.invariant-loop-i
invariant-loop-i l =
    ItemsPassed l.fn.place l.fn.name l.items (marks_view l.initial.out) l.i
    (option_map (λ name. name.now) l.last) (marks_view l.out)
