use Rattle.pawn_tree.proofs.ViewLaws.{switch_view}
use Rattle.parse_statements.proofs.nodes.switch_node.Goals as goal

pub returns : goal.returns
returns c = switch_view c.args.at c.args.value c.args.cases c.args.other
