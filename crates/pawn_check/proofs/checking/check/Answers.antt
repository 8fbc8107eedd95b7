use Rattle.std.proofs.Common.{ℤ, w32, subst}
use Rattle.std.proofs.lemmas.Int.{to_z-of_z}
use Rattle.pawn_tree.specs.View.{tree_view}
use Rattle.types_rules.specs.Sources.{Source}
use Rattle.pawn_verdict.specs.Answers.{Answers}
use Rattle.check_source.specs.SourceView.{source_view}
use Rattle.pawn_check.specs.TreeParts.{typed_by}
use Rattle.pawn_check.specs.View.{checked_view}
use Rattle.pawn_check.proofs.checking.check.Goals as goal

pub returns : goal.returns
returns c =
    subst (λ (source : Source). Answers checked_view
    (typed_by source (tree_view c.args.tree.now) c.args.dynamic) c.check_read.result)
    c.in_ok-reading.ensures.source
    (subst (λ (d : ℤ). Answers checked_view
    (typed_by (source_view c.in_ok-reading.reading.source) (tree_view c.args.tree.now) d)
    c.check_read.result)
    (to_z-of_z w32 c.args.dynamic c.ranges.dynamic) c.check_read.ensures)
