use Rattle.std.proofs.Common.{◌≡◌, false, drop, take}
use Rattle.pawn_pre.specs.declared.quote.Quote.TheVariants.{Outside}
use Rattle.pawn_pre.specs.Substitution.{substituted, with_before}
use Rattle.pawn_pre.proofs.table.Table.substituted.Given as goal

abbrev pub invariant-loop-i : goal.invariant-loop-i
invariant-loop-i l =
    with_before (take l.i l.bytes)
    (substituted l.self l.control l.quote l.joined (drop l.i l.bytes)) ≡
    substituted l.self l.control Outside false l.bytes
