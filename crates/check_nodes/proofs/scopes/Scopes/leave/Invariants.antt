use Rattle.std.proofs.Common.{◌≡◌, length, reverse}
use Rattle.check_nodes.specs.Scopes.{blocks_of, outer_of}
use Rattle.check_nodes.specs.Indexed.{IsIndexed}
use Rattle.check_nodes.proofs.scopes.Scopes.leave.Given as goal

abbrev pub invariant-loop-top : goal.invariant-loop-top
invariant-loop-top l =
    IsIndexed (reverse l.self-inside.stack.items) l.self-inside.table.entries l.self-inside.depth
    × (outer_of (blocks_of (reverse l.self-inside.stack.items))
    ≡ outer_of (blocks_of (reverse l.initial.self-inside.stack.items)))

abbrev pub decreases-loop-top : goal.decreases-loop-top
decreases-loop-top l = length l.self-inside.stack.items
