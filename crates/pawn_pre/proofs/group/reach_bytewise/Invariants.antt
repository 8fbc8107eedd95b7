use Rattle.std.proofs.Common.{◌≡◌, ◌+◌, [], drop}
use Rattle.std.specs.Option.{option_map}
use Rattle.pawn_pre.specs.declared.quote.Quote.TheVariants.{Outside}
use Rattle.pawn_pre.specs.GroupScan.{reach_bytewise}
use Rattle.pawn_pre.proofs.group.reach_bytewise.Given as goal

abbrev pub invariant-loop-i : goal.invariant-loop-i
invariant-loop-i l =
    option_map (λ n. l.i + n)
    (reach_bytewise l.control l.end l.group.awaited.items l.group.quote (drop l.i l.bytes)) ≡
    reach_bytewise l.fn.control l.fn.end [] Outside l.fn.bytes
