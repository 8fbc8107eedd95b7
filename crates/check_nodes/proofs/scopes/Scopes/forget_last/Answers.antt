use Rattle.std.proofs.Common.{refl}
use Rattle.names_rules.proofs.SightLaws.{undeclared, never_absent}
use Rattle.check_nodes.specs.Indexed.{ways}
use Rattle.check_nodes.proofs.IndexLaws.{around, skips}
use Rattle.check_nodes.proofs.scopes.Scopes.forget_last.Goals as goal

pub unreachable-requires-in_default-insert : goal.unreachable-requires-in_default-insert
unreachable-requires-in_default-insert c =
    never_absent ways around skips c.self.inside.stack.items c.pop.new.self.items
    (c.self.invariant, refl) c.in-Some-Some-pop.ensures.items c.in-Some-Some-pop.field-0-is
    c.in_default-insert.ensures.absent

pub invariant_of-self : goal.invariant_of-self
invariant_of-self c =
    (undeclared ways around skips c.self.inside.stack.items c.pop.new.self.items
    (c.self.invariant, refl) c.in-Some-Some-pop.ensures.items c.in-Some-Some-pop.field-0-is
    c.in-Ok.ensures.entries).0
