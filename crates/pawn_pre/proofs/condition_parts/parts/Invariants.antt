use Rattle.std.proofs.Common.{◌≡◌, drop}
use Rattle.pawn_pre.specs.ConditionParts.{parts_from, with_parts}
use Rattle.pawn_pre.proofs.condition_parts.parts.Given as goal

abbrev pub invariant-loop-i : goal.invariant-loop-i
invariant-loop-i l =
    with_parts l.parts (parts_from l.control l.left (drop l.i l.text)) ≡
    parts_from l.fn.control 0 l.fn.text
