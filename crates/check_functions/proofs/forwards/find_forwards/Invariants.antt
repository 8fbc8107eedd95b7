use Rattle.check_source.specs.SourceView.{source_view}
use Rattle.check_functions.specs.HeadsView.{heads_view}
use Rattle.check_functions.specs.EntryForwards.{TellOf}
use Rattle.check_functions.proofs.forwards.find_forwards.Given as goal

abbrev pub invariant-loop-i : goal.invariant-loop-i
invariant-loop-i l =
    TellOf (source_view l.source) (heads_view l.heads) l.i l.forwards.first l.forwards.other
