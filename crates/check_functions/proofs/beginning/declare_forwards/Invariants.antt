use Rattle.std.proofs.Common.{map, drop}
use Rattle.check_source.specs.HeadingView.{heading_view}
use Rattle.check_source.specs.SourceView.{source_view}
use Rattle.check_functions.specs.ForwardNames.{forwards_in}
use Rattle.check_functions.proofs.DeclaresLaws.{DeclaresSoFar}
use Rattle.check_functions.proofs.beginning.declare_forwards.Given as goal

abbrev pub invariant-loop-i : goal.invariant-loop-i
invariant-loop-i l =
    DeclaresSoFar l.initial.scopes l.scopes
    (forwards_in (source_view l.source) (drop l.i (map heading_view l.source.headings)))
    (forwards_in (source_view l.source) (map heading_view l.source.headings))
