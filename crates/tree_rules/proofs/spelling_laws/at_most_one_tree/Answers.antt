use Rattle.tree_rules.proofs.Trees as trees
use Rattle.tree_rules.proofs.spelling_laws.at_most_one_tree.Goals as goal

pub returns : goal.returns
returns c = trees.one_tree
