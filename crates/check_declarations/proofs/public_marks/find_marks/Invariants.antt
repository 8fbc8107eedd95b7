use Rattle.std.proofs.Common.{map, take}
use Rattle.check_source.specs.GroupsView.{groups_view}
use Rattle.check_source.specs.HeadingView.{heading_view}
use Rattle.check_declarations.specs.Marked.{AreMarked}
use Rattle.check_declarations.proofs.public_marks.find_marks.Given as goal

abbrev pub invariant-loop-i : goal.invariant-loop-i
invariant-loop-i l =
    AreMarked l.source.tags l.source.fallback.now (groups_view l.source.groups)
    (map heading_view (take l.i l.headings))
    l.marks.flags.items l.marks.entry
