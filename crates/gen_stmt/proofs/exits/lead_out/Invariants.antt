use Rattle.std.proofs.Common.{◌≡◌, length, drop}
use Rattle.gen_stmt.specs.Led.{all_led, AreIn}
use Rattle.gen_stmt.proofs.exits.lead_out.Given as goal

abbrev pub invariant-loop-hole : goal.invariant-loop-hole
invariant-loop-hole l =
    (all_led l.broke l.continued (drop l.hole-index l.holes) l.led
    ≡ all_led l.broke l.continued l.holes l.fn.b)
    × AreIn (length l.led.code) (drop l.hole-index l.holes)
