use Rattle.pawn_tree.proofs.ViewLaws.{call_view}
use Rattle.parse_statements.proofs.arguments.call_node.Goals as goal

pub returns : goal.returns
returns c = call_view _ _ _ _
