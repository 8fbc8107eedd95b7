use Rattle.std.proofs.Common.{arith}
use Rattle.std.specs.Prelude.{slice_get}
use Rattle.check_source.specs.AutomataView.{automata_view}
use Rattle.check_declarations.specs.Routed.{pairs_view}
use Rattle.check_declarations.proofs.RouteLaws.{numbered_all}
use Rattle.check_declarations.proofs.routes.push_states.Goals as goal

pub returns : goal.returns
returns c =
    numbered_all (slice_get (automata_view c.args.automata.now) c.args.number) c.args.clause
    c.args.states.now c.loop-i.i (pairs_view c.args.list.now) (pairs_view c.loop-i.list)
    c.loop-i.invariant (omega arith)
