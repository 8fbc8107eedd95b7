use Rattle.pawn_tree.proofs.ViewLaws.{if_view}
use Rattle.parse_statements.proofs.nodes.if_node.Goals as goal

pub returns : goal.returns
returns c = if_view c.args.at c.args.test c.args.body c.args.other
