use Rattle.std.proofs.Common.{◌≡◌, ◌-◌, length}
use Rattle.amx_block.specs.Packed.{IsPacked}
use Rattle.amx_block.specs.Expanded.{IsExpandedFrom}
use Rattle.amx_block.proofs.expand.expand_pieces.Given as goal

abbrev pub invariant-loop-done : goal.invariant-loop-done
invariant-loop-done l =
    ((p : IsPacked l.initial.cells.items l.len l.count)
    → IsExpandedFrom l.initial.cells.items l.cells.items l.len l.count (l.count - l.done) l.end p)
    × (length l.cells.items ≡ length l.initial.cells.items)
