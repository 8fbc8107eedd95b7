use Rattle.std.proofs.Common.{List, ℕ, ◌∷◌, ◌++◌, [], None, Some, sym, ap, ◌∙◌}
use Rattle.check_source.proofs.AutomataLaws.{item_known, item_new}
use Rattle.check_source.proofs.automata.Automata.add.Goals as goal

pub returns-in_ok-add_state-in-Some : goal.returns-in_ok-add_state-in-Some
returns-in_ok-add_state-in-Some c =
    item_known c.args.self.now c.args.name.now c.args.state.now c.in-Some.number _
    (sym c.in-Some.ensures) c.in_ok-add_state-in-Some.ensures

pub returns-in_ok-push-in-None-2 : goal.returns-in_ok-push-in-None-2
returns-in_ok-push-in-None-2 c =
    item_new c.args.self.now c.args.name.now (Some c.args.state.now) _ (sym c.in-None.ensures)
    (c.in_ok-push-in-None-2.ensures
    ∙ ap (λ (s : List (List ℕ)). c.args.self.now
    ++ record { name = c.args.name.now; states = s; enter = None } ∷ [])
    (c.in_ok-push-in-None.ensures.ok
    ∙ ap (λ (s : List (List ℕ)). s ++ c.args.state.now ∷ []) c.new-states.ensures))
