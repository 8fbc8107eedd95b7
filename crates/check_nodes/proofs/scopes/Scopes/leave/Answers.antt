use Rattle.names_rules.proofs.SightLaws.{undeclared, never_absent}
use Rattle.check_nodes.specs.Indexed.{ways}
use Rattle.check_nodes.proofs.IndexLaws.{around, skips}
use Rattle.check_nodes.proofs.scopes.Scopes.leave.Goals as goal

pub loop-top-preserved : goal.loop-top-preserved
loop-top-preserved c =
    undeclared ways around skips c.loop-top.self-inside.stack.items c.pop.new.self.items
    c.loop-top.invariant c.in-Some.ensures.items c.in-Some-top.is c.in-Ok.ensures.entries

pub unreachable-requires : goal.unreachable-requires
unreachable-requires c =
    never_absent ways around skips c.loop-top.self-inside.stack.items c.pop.new.self.items
    c.loop-top.invariant c.in-Some.ensures.items c.in-Some-top.is c.in_default-insert.ensures.absent
