use Rattle.pawn_meaning.specs.View.{program_view}
use Rattle.gen_sim.specs.StateCode.{switched_code}
use Rattle.gen_stmt.proofs.PlainLaws.{chosen_done}
use Rattle.gen_stmt.proofs.states.chosen.Goals as goal

pub returns : goal.returns
returns c =
    chosen_done c.args.b c.in_ok-tested.tested c.in_ok-first.first c.in_ok-opened.opened
    c.in_ok-done.done
    (switched_code (program_view c.args.place.now.program.now) c.args.a c.args.state)
    c.in_ok-other.other c.in_ok-end.end
    c.in_ok-tested.ensures c.in_ok-other.ensures c.in_ok-first.ensures c.in_ok-opened.ensures
    c.in_ok-end.ensures c.in_ok-done.ensures
