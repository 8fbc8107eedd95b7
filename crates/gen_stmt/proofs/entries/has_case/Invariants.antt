use Rattle.std.proofs.Common.{◌≡◌, ◌==◌, drop, find, is_some}
use Rattle.gen_stmt.proofs.entries.has_case.Given as goal

abbrev pub invariant-loop-i : goal.invariant-loop-i
invariant-loop-i l =
    is_some (find (λ case. case.0 == l.state) (drop l.i l.cases))
    ≡ is_some (find (λ case. case.0 == l.state) l.cases)
