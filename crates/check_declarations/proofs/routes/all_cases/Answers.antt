use Rattle.std.proofs.Common.{◌≡◌, ◌++◌, sym, ap, subst, ◌∙◌, arith}
use Rattle.std.specs.Prelude.{slice_get}
use Rattle.pawn_states.specs.declared.clause.Clause.{Clause}
use Rattle.check_source.specs.AutomataView.{automata_view}
use Rattle.check_declarations.specs.Routed.{pairs_view, states_numbered}
use Rattle.check_declarations.proofs.RouteLaws.{cased_more, cased_all}
use Rattle.check_declarations.proofs.routes.all_cases.Goals as goal

pub loop-i-preserved : goal.loop-i-preserved
loop-i-preserved c =
    let automaton = slice_get (automata_view c.args.automata.now) c.args.number in
    let clause = c.index-clauses-i.result in
    cased_more clause c.loop-i.invariant (omega arith) c.index-clauses-i.is
    (subst (λ n. pairs_view c.push_states.new.list
    ≡ pairs_view c.loop-i.list ++ states_numbered automaton n clause.states)
    c.in_ok-clause.ensures
    (subst (λ states. pairs_view c.push_states.new.list
    ≡ pairs_view c.loop-i.list ++ states_numbered automaton c.in_ok-clause.clause states)
    (c.as_slice.ensures ∙ ap (λ (it : Clause). it.states) (sym c.index-clauses-i.is))
    c.in_ok-push_states.ensures))

pub returns : goal.returns
returns c = cased_all c.loop-i.invariant (omega arith)
