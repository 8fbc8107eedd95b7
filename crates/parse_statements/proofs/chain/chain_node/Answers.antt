use Rattle.pawn_tree.proofs.ViewLaws.{chain_view}
use Rattle.parse_statements.proofs.chain.chain_node.Goals as goal

pub returns : goal.returns
returns c = chain_view c.args.at c.args.first c.args.links
