use Rattle.std.proofs.Common.{map}
use Rattle.pawn_meaning.specs.View.{public_view}
use Rattle.check_source.specs.GroupsView.{groups_view}
use Rattle.check_source.specs.SourceView.{source_view}
use Rattle.check_declarations.proofs.PublishedLaws.{Numbered}
use Rattle.check_declarations.proofs.published.numbered.Given as goal

abbrev pub invariant-loop-i : goal.invariant-loop-i
invariant-loop-i l =
    Numbered (source_view l.source) (groups_view l.groups) l.i (map public_view l.publics.items)
