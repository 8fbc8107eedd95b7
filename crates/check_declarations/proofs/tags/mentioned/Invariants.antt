use Rattle.std.proofs.Common.{◌≡◌, ℕ, List, take}
use Rattle.pawn_base.specs.Among.{is_among}
use Rattle.types_rules.specs.Programs.{mentions}
use Rattle.names_sight.specs.MarkView.{marks_view}
use Rattle.check_declarations.proofs.tags.mentioned.Given as goal

abbrev pub invariant-loop-i : goal.invariant-loop-i
invariant-loop-i l =
    (name : List ℕ) → is_among name l.names ≡ mentions (marks_view (take l.i l.marks)) name
