use Rattle.std.proofs.Common.{◌≡◌, ◌+◌, ◌≤◌, drop}
use Rattle.pawn_meaning.specs.View.{args_view}
use Rattle.gen_sim.specs.Results.{temporaries_in}
use Rattle.gen_expr.proofs.counts.temporaries.Given as goal

abbrev pub invariant-loop-arg : goal.invariant-loop-arg
invariant-loop-arg l =
    (l.count + temporaries_in (args_view (drop l.arg-index l.args))
    ≡ temporaries_in (args_view l.args))
    × (l.count ≤ l.arg-index)
