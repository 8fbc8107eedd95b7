use Rattle.std.proofs.Common.{◌≡◌, length, drop}
use Rattle.gen_expr.specs.Holes.{all_filled, AreIn}
use Rattle.gen_expr.proofs.chain.lead_all.Given as goal

abbrev pub invariant-loop-at : goal.invariant-loop-at
invariant-loop-at l =
    (all_filled (drop l.at-index l.holes) l.to l.led ≡ all_filled l.holes l.to l.fn.b)
    × AreIn (length l.led.code) (drop l.at-index l.holes)
