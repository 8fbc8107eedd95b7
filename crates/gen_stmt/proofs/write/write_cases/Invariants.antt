use Rattle.std.proofs.Common.{◌≡◌, ◌+◌, ◌*◌, drop, length}
use Rattle.pawn_meaning.specs.View.{cases_view}
use Rattle.gen_laws.specs.SwitchCode.{cases_values}
use Rattle.gen_stmt.specs.Over.{over, cases_pairs}
use Rattle.gen_stmt.proofs.write.write_cases.Given as goal

abbrev pub invariant-loop-i : goal.invariant-loop-i
invariant-loop-i l =
    (over l.cell (cases_pairs (cases_view (drop l.i l.cases)) (drop l.i l.to)) l.written
    ≡ over l.at (cases_pairs (cases_view l.cases) l.to) l.fn.b)
    × (l.cell + 2 * cases_values (cases_view (drop l.i l.cases))
    ≡ l.at + 2 * cases_values (cases_view l.cases))
    × (length l.written.code ≡ length l.fn.b.code)
