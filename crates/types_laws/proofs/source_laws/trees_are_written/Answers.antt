use Rattle.types_laws.proofs.TreeLaws as trees
use Rattle.types_laws.proofs.source_laws.trees_are_written.Goals as goal

pub returns : goal.returns
returns c = trees.trees_written
