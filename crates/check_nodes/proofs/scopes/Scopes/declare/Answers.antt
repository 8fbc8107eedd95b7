use Rattle.std.proofs.Common.{◌≡◌, ◌∷◌, ◌++◌, [], List, Option, Some, refl, ap, ◌∙◌}
use Rattle.names_rules.specs.InSight.{now_in}
use Rattle.names_rules.proofs.SightLaws.{stands_at, declared_now}
use Rattle.check_nodes.specs.declared.scopes.Hidden.{Hidden}
use Rattle.check_nodes.specs.Indexed.{ways}
use Rattle.check_nodes.proofs.scopes.Scopes.declare.Goals as goal
use Rattle.check_nodes.proofs.scopes.Scopes.declare.Goals.{in-None, in-Some}

pub invariant_of-self-2 : goal.invariant_of-self-2
invariant_of-self-2 c =
    let before : c.match-get.before
    ≡ now_in (stands_at c.args.name.now c.self.inside.table.entries) =
    elim c.match-get.branch [
      | in-None w ↦ w.before-is ∙ ap now_in w.in-None.ensures.value
      | in-Some w ↦ w.before-is ∙ ap now_in w.in-Some.ensures.value
    ] in
    let it : Hidden = record {
      name = c.args.name;
      declared = record { means = c.args.means; depth = c.self.inside.depth };
      before = c.match-get.before;
    } in
    declared_now ways c.self.inside.stack.items it c.self.invariant refl before
    (c.in-Ok-push.ensures.items
    ∙ ap (λ (items : List (Option Hidden)). items ++ Some it ∷ []) c.reserve.ensures.items)
    c.in-Ok.ensures.entries
