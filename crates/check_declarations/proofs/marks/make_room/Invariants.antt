use Rattle.std.proofs.Common.{◌≡◌, ◌≤◌, ℕ, length}
use Rattle.check_declarations.specs.Marks.{mark_of}
use Rattle.check_declarations.proofs.marks.make_room.Given as goal

abbrev pub invariant-loop : goal.invariant-loop
invariant-loop l =
    (l.counter ≤ length l.marks.items)
    × ((other : ℕ) → mark_of l.marks.items other ≡ mark_of l.fn.marks.items other)
