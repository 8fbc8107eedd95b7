use Rattle.std.proofs.Common.{◌+◌, drop, arith}
use Rattle.std.proofs.lemmas.Grind.{common_steps}
use Rattle.pawn_pre.specs.ConditionMachine.{value_of_parts}
use Rattle.pawn_pre.proofs.evaluate.evaluate.Goals as goal

pub returns-in-None-2 : goal.returns-in-None-2
unfolding value_of_parts
returns-in-None-2 c =
    let none = rw c.in-None-2.is at c.in_ok-next-in-None.ensures in
    let rest = rw c.in-None.is at c.loop-part.invariant in
    let e = none (drop (c.loop-part.part-index + 1) c.args.parts.now) in
    grind (arith, common_steps, rest, e)

pub returns-in-None-3 : goal.returns-in-None-3
unfolding value_of_parts
returns-in-None-3 c =
    let none = rw c.in-None-3.is at c.in_ok-next-in-Some.ensures in
    let rest = rw c.in-Some.is at c.loop-part.invariant in
    let e = none (drop (c.loop-part.part-index + 1) c.args.parts.now) in
    grind (arith, common_steps, rest, e)
