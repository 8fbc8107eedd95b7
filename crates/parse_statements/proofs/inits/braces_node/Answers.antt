use Rattle.pawn_tree.proofs.ViewLaws.{braces_view}
use Rattle.parse_statements.proofs.inits.braces_node.Goals as goal

pub returns : goal.returns
returns c = braces_view _ _ _
