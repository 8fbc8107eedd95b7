use Rattle.std.proofs.Common.{◌≡◌, ◌++◌, false, drop}
use Rattle.pawn_pre.specs.declared.quote.Quote.TheVariants.{Outside}
use Rattle.pawn_pre.specs.Defined.{answered}
use Rattle.pawn_pre.proofs.table.Table.answered.Given as goal

abbrev pub invariant-loop-i : goal.invariant-loop-i
invariant-loop-i l =
    l.out ++ answered l.self l.control l.quote l.joined l.left (drop l.i l.bytes) ≡
    answered l.fn.self l.fn.control Outside false 0 l.fn.bytes
