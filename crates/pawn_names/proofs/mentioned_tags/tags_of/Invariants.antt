use Rattle.std.proofs.Common.{◌≡◌, take}
use Rattle.names_sight.specs.MarkView.{marks_view}
use Rattle.names_rules.specs.Around as spec
use Rattle.pawn_names.proofs.mentioned_tags.tags_of.Given as goal

abbrev pub invariant-loop-i : goal.invariant-loop-i
invariant-loop-i l = l.tags ≡ spec.tags_of (marks_view (take l.i l.marks))
