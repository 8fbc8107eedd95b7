use Rattle.std.proofs.Common.{pos, sym, ◌∙◌, arith}
use Rattle.check_switches.proofs.ApartLaws.{touch_more, touch_found, touch_none}
use Rattle.check_switches.proofs.apart.touches.Goals as goal

pub loop-i-preserved : goal.loop-i-preserved
loop-i-preserved c =
    sym (touch_more c.args.ranges.now c.loop-i.i (pos 0, pos 0) (omega arith) (omega arith)
    (sym c.meets.ensures ∙ c.if-meets.false)) ∙ c.loop-i.invariant

pub returns-then-meets : goal.returns-then-meets
returns-then-meets c =
    sym (touch_found c.args.ranges.now c.loop-i.i (pos 0, pos 0) (omega arith) (omega arith)
    (sym c.meets.ensures ∙ c.if-meets.true)) ∙ c.loop-i.invariant

pub returns : goal.returns
returns c = sym (touch_none c.args.ranges.now c.loop-i.i (omega arith)) ∙ c.loop-i.invariant
