use Rattle.std.proofs.Common.{◌≡◌, ◌++◌, take}
use Rattle.std.specs.Prelude.{slice_get}
use Rattle.check_source.specs.AutomataView.{automata_view}
use Rattle.check_declarations.specs.Routed.{pairs_view, states_numbered}
use Rattle.check_declarations.proofs.routes.push_states.Given as goal

abbrev pub invariant-loop-i : goal.invariant-loop-i
invariant-loop-i l =
    pairs_view l.list ≡ pairs_view l.initial.list
    ++ states_numbered (slice_get (automata_view l.automata) l.number) l.clause
    (take l.i l.states)
