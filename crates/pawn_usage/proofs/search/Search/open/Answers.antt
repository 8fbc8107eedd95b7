use Rattle.std.proofs.Common.{◌∙◌, sym, ap, slice_set}
use Rattle.pawn_usage.specs.IsGraph.{plain}
use Rattle.pawn_usage.proofs.StepLaws.{begins}
use Rattle.pawn_usage.proofs.search.Search.open.Goals as goal

pub returns : goal.returns
returns c =
    begins (plain c.args.graph.now) c.args.self.now c.set.new.self c.args.start c.in-Fresh.count
    c.in-Some.mark c.requires.rests c.requires.starts (sym c.mark.ensures ∙ c.in-Some.is)
    c.in-Fresh.is
    (c.set.ensures.marks
    ∙ ap (λ m. slice_set c.args.self.now.marks.items c.args.start m) c.with_progress.ensures)
    (c.set.ensures.path ∙ c.in_ok-push.ensures.items)
