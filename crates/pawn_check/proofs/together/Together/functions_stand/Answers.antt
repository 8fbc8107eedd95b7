use Rattle.pawn_tree.specs.View.{tree_view}
use Rattle.check_source.specs.SourceView.{source_view}
use Rattle.check_functions.specs.HeadsView.{heads_view}
use Rattle.pawn_check.proofs.TogetherLaws.{functions_are}
use Rattle.pawn_check.proofs.together.Together.functions_stand.Goals as goal

pub returns : goal.returns
returns c =
    functions_are (source_view c.args.self.now.reading.now.source)
    (tree_view c.args.self.now.tree.now) (heads_view c.args.self.now.heads.now)
    c.group_faults.result c.requires.heads c.group_faults.ensures
