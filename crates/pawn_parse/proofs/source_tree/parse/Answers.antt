use Rattle.pawn_parse.proofs.TreeLaws.{moved, finds, never_deep}
use Rattle.pawn_parse.proofs.source_tree.parse.Goals as goal

pub returns-in-Some-clause-complete : goal.returns-in-Some-clause-complete
returns-in-Some-clause-complete c = never_deep _ c.as_slice-list.ensures c.in-Some.ensures

pub returns-clause-answer : goal.returns-clause-answer
returns-clause-answer c = moved _ c.as_slice-list.ensures c.tree_of.ensures

pub returns-clause-complete : goal.returns-clause-complete
returns-clause-complete c =
    finds c.at_most_one_tree.ensures _ c.as_slice-list.ensures c.tree_of.ensures
