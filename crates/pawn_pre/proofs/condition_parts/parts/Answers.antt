use Rattle.std.proofs.Common.{◌≡◌, ◌∷◌, ◌+◌, ◌<◌, drop, get_or, Some, sym, ap, ◌∙◌, arith}
use Rattle.std.proofs.lemmas.Grind.{common_steps}
use Rattle.pawn_pre.specs.ConditionParts.{step_at, with_parts}
use Rattle.pawn_pre.proofs.TextPartLaws.{skipped, one_part}
use Rattle.pawn_pre.proofs.condition_parts.parts.Goals as goal

pub loop-i-preserved-then-left-gt0 : goal.loop-i-preserved-then-left-gt0
loop-i-preserved-then-left-gt0 c =
    let cut : drop c.loop-i.i c.args.text.now
    ≡ get_or c.args.text.now c.loop-i.i 0 ∷ drop (c.loop-i.i + 1) c.args.text.now =
    grind (arith, common_steps) in
    let so_far = rw cut at c.loop-i.invariant in
    let some : 0 < c.loop-i.left = grind arith in
    ap (with_parts c.loop-i.parts) (sym (skipped c.args.control c.loop-i.left _ _ some)) ∙ so_far

pub loop-i-preserved : goal.loop-i-preserved
loop-i-preserved c =
    let cut : drop c.loop-i.i c.args.text.now
    ≡ get_or c.args.text.now c.loop-i.i 0 ∷ drop (c.loop-i.i + 1) c.args.text.now =
    grind (arith, common_steps) in
    let first : c.loop-i.left ≡ 0 = grind arith in
    let so_far = rw (cut, first) at c.loop-i.invariant in
    let found : step_at c.args.control
    (get_or c.args.text.now c.loop-i.i 0 ∷ drop (c.loop-i.i + 1) c.args.text.now)
    ≡ Some c.in-Some.step =
    ap (step_at c.args.control) (sym (c.split_at.ensures.back ∙ cut))
    ∙ sym (sym c.in-Some.is ∙ c.in_ok-step.ensures) in
    let e =
    one_part c.loop-i.parts c.args.control _ _ c.in-Some.step
    (sym c.if-is_in.ensures) found in
    rw (c.in_ok-push-in-Some.ensures.ok, c.saturating_sub-left.ensures) (sym e ∙ so_far)
