use Rattle.std.proofs.Common.{◌≡◌, ◌++◌, pos, replicate}
use Rattle.gen_stmt.proofs.table.zeros.Given as goal

abbrev pub invariant-loop-i : goal.invariant-loop-i
invariant-loop-i l =
    l.grown ≡ record { code = l.fn.b.code ++ replicate l.i (pos 0); waits = l.fn.b.waits }
