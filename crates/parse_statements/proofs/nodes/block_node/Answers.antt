use Rattle.pawn_tree.proofs.ViewLaws.{block_view}
use Rattle.parse_statements.proofs.nodes.block_node.Goals as goal

pub returns : goal.returns
returns c = block_view _ _
