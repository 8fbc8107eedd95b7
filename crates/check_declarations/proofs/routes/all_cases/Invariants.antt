use Rattle.std.specs.Prelude.{slice_get}
use Rattle.check_source.specs.AutomataView.{automata_view}
use Rattle.check_declarations.specs.Routed.{pairs_view, Cased}
use Rattle.check_declarations.proofs.routes.all_cases.Given as goal

abbrev pub invariant-loop-i : goal.invariant-loop-i
invariant-loop-i l =
    Cased (slice_get (automata_view l.automata) l.number) l.clauses l.i (pairs_view l.list)
