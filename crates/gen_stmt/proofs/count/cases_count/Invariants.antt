use Rattle.std.proofs.Common.{◌≡◌, ◌+◌, ◌<◌, ◌^◌, drop}
use Rattle.pawn_meaning.specs.View.{cases_view}
use Rattle.gen_laws.specs.SwitchCode.{cases_values}
use Rattle.gen_stmt.proofs.count.cases_count.Given as goal

abbrev pub invariant-loop-i : goal.invariant-loop-i
invariant-loop-i l =
    (l.count + cases_values (cases_view (drop l.i l.cases)) ≡ cases_values (cases_view l.cases))
    × (l.count < 2 ^ 28)
