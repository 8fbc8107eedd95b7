use Rattle.std.proofs.Common.{List, ℕ, ◌∷◌, ◌++◌, [], None, sym, ap, ◌∙◌}
use Rattle.check_source.proofs.AutomataLaws.{item_kept, item_new}
use Rattle.check_source.proofs.automata.Automata.mention.Goals as goal

pub returns-in-Some : goal.returns-in-Some
returns-in-Some c = item_kept c.args.self.now c.args.name.now _ (sym c.in-Some.ensures)

pub returns-in_ok-push-in-None : goal.returns-in_ok-push-in-None
returns-in_ok-push-in-None c =
    item_new c.args.self.now c.args.name.now None _ (sym c.in-None.ensures)
    (c.in_ok-push-in-None.ensures
    ∙ ap (λ (s : List (List ℕ)). c.args.self.now
    ++ record { name = c.args.name.now; states = s; enter = None } ∷ []) c.new.ensures)
