use Rattle.std.proofs.Common.{map, take}
use Rattle.check_source.specs.GroupsView.{groups_view}
use Rattle.check_source.specs.HeadingView.{heading_view}
use Rattle.check_functions.specs.Own.{AreFirsts}
use Rattle.check_functions.proofs.firsts.find_firsts.Given as goal

abbrev pub invariant-loop-i : goal.invariant-loop-i
invariant-loop-i l =
    AreFirsts l.source.tags l.source.fallback.now (groups_view l.source.groups)
    (map heading_view (take l.i l.headings))
    l.firsts.own.items l.firsts.entry
