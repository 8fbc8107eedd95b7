use Rattle.pawn_meaning.proofs.ViewLaws.{stmt_view-Switch}
use Rattle.check_switches.proofs.switches.switch_node.Goals as goal

pub returns : goal.returns
returns c =
    rw c.into_inner.ensures (stmt_view-Switch c.args.value.value c.args.cases c.args.other)
