use Rattle.std.proofs.Common.{None, Some, reverse, sym, ap, ◌∙◌}
use Rattle.names_sight.proofs.IndexLaws.{has_in}
use Rattle.names_sight.proofs.scopes.Scopes.is_here.Goals as goal

pub returns-in-None : goal.returns-in-None
returns-in-None c =
    has_in (reverse c.self.inside.stack.items) c.self.inside.table.entries c.self.inside.depth
    c.args.self.now c.args.name.now None
    c.self.invariant c.self.view_is c.in-None.ensures.value

pub returns-in-Some-None : goal.returns-in-Some-None
returns-in-Some-None c =
    has_in (reverse c.self.inside.stack.items) c.self.inside.table.entries c.self.inside.depth
    c.args.self.now c.args.name.now (Some None)
    c.self.invariant c.self.view_is
    (ap Some (sym c.in-Some-None.field-0-is) ∙ c.in-Some-None.ensures.value)

pub returns-in-Some-Some : goal.returns-in-Some-Some
returns-in-Some-Some c =
    has_in (reverse c.self.inside.stack.items) c.self.inside.table.entries c.self.inside.depth
    c.args.self.now c.args.name.now
    (Some (Some c.in-Some-Some.declared)) c.self.invariant c.self.view_is
    (ap Some (sym c.in-Some-Some.field-0-is) ∙ c.in-Some-Some.ensures.value)
