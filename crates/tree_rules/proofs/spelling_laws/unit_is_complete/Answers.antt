use Rattle.tree_rules.proofs.Trees as trees
use Rattle.tree_rules.proofs.spelling_laws.unit_is_complete.Goals as goal

pub returns : goal.returns
returns c = trees.unit_is_complete
