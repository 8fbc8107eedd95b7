use Rattle.std.proofs.Common.{◌≡◌, ◌-◌, ◌++◌}
use Rattle.types_rules.specs.FirstValues.{further}
use Rattle.check_expressions.proofs.filling.with_further.Given as goal

abbrev pub invariant-loop : goal.invariant-loop
invariant-loop l =
    l.all ++ further (l.count - l.counter) l.value l.step
    ≡ l.fn.cells ++ further l.count l.fn.last l.step
