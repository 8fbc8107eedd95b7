use Rattle.std.proofs.Common.{◌≡◌, ◌-◌, ◌++◌, pos, replicate}
use Rattle.check_expressions.proofs.filling.with_zeros.Given as goal

abbrev pub invariant-loop : goal.invariant-loop
invariant-loop l =
    l.all ++ replicate (l.count - l.counter) (pos 0) ≡ l.fn.cells ++ replicate l.count (pos 0)
