use Rattle.std.proofs.Common.{None, Some, reverse, sym, ap, ◌∙◌, arith}
use Rattle.check_nodes.specs.Scopes.{scope_view}
use Rattle.check_nodes.proofs.IndexLaws.{viewed_as, outermost, here_of}
use Rattle.check_nodes.proofs.scopes.Scopes.find_here.Goals as goal

pub returns-then-self-eq0 : goal.returns-then-self-eq0
returns-then-self-eq0 c =
    c.find.ensures
    ∙ sym (outermost (reverse c.self.inside.stack.items) c.self.inside.table.entries
    c.self.inside.depth (scope_view c.args.self.now) c.args.name.now
    c.self.invariant (viewed_as (reverse c.self.inside.stack.items) c.args.self.now c.self.view_is)
    (omega arith))

pub returns-in-None : goal.returns-in-None
returns-in-None c =
    here_of (reverse c.self.inside.stack.items) c.self.inside.table.entries c.self.inside.depth
    (scope_view c.args.self.now) c.args.name.now None
    c.self.invariant (viewed_as (reverse c.self.inside.stack.items) c.args.self.now c.self.view_is)
    c.in-None.ensures.value (omega arith)

pub returns-in-Some-None : goal.returns-in-Some-None
returns-in-Some-None c =
    here_of (reverse c.self.inside.stack.items) c.self.inside.table.entries c.self.inside.depth
    (scope_view c.args.self.now) c.args.name.now (Some None)
    c.self.invariant (viewed_as (reverse c.self.inside.stack.items) c.args.self.now c.self.view_is)
    (ap Some (sym c.in-Some-None.field-0-is) ∙ c.in-Some-None.ensures.value) (omega arith)

pub returns-in-Some-Some : goal.returns-in-Some-Some
returns-in-Some-Some c =
    c.means_at.ensures
    ∙ here_of (reverse c.self.inside.stack.items) c.self.inside.table.entries c.self.inside.depth
    (scope_view c.args.self.now) c.args.name.now
    (Some (Some c.in-Some-Some.declared)) c.self.invariant
    (viewed_as (reverse c.self.inside.stack.items) c.args.self.now c.self.view_is)
    (ap Some (sym c.in-Some-Some.field-0-is) ∙ c.in-Some-Some.ensures.value) (omega arith)
