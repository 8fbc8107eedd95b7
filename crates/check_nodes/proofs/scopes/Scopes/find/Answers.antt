use Rattle.std.proofs.Common.{None, Some, reverse, sym, ap, ◌∙◌}
use Rattle.check_nodes.specs.Scopes.{scope_view}
use Rattle.check_nodes.proofs.IndexLaws.{viewed_as, finds_in}
use Rattle.check_nodes.proofs.scopes.Scopes.find.Goals as goal

pub returns-in-None : goal.returns-in-None
returns-in-None c =
    c.elsewhere.ensures
    ∙ finds_in (reverse c.self.inside.stack.items) c.self.inside.table.entries c.self.inside.depth
    (scope_view c.args.self.now) c.args.name.now None
    c.self.invariant (viewed_as (reverse c.self.inside.stack.items) c.args.self.now c.self.view_is)
    c.in-None.ensures.value

pub returns-in-Some-None : goal.returns-in-Some-None
returns-in-Some-None c =
    c.elsewhere-in-Some-None.ensures
    ∙ finds_in (reverse c.self.inside.stack.items) c.self.inside.table.entries c.self.inside.depth
    (scope_view c.args.self.now) c.args.name.now (Some None)
    c.self.invariant (viewed_as (reverse c.self.inside.stack.items) c.args.self.now c.self.view_is)
    (ap Some (sym c.in-Some-None.field-0-is) ∙ c.in-Some-None.ensures.value)

pub returns-in-Some-Some : goal.returns-in-Some-Some
returns-in-Some-Some c =
    finds_in (reverse c.self.inside.stack.items) c.self.inside.table.entries c.self.inside.depth
    (scope_view c.args.self.now) c.args.name.now
    (Some (Some c.in-Some-Some.declared)) c.self.invariant
    (viewed_as (reverse c.self.inside.stack.items) c.args.self.now c.self.view_is)
    (ap Some (sym c.in-Some-Some.field-0-is) ∙ c.in-Some-Some.ensures.value)
