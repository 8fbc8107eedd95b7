use Rattle.std.proofs.Common.{◌*◌, w32, FitsSigned, length, rules}
use Rattle.std.proofs.lemmas.Int.{to_z-of_z}
use Rattle.pawn_meaning.specs.View.{scalar_view, expr_view}
use Rattle.gen_sim.specs.DirectCode.{direct_of}
use Rattle.gen_laws.specs.ExprCode.{place_items, effect_items}
use Rattle.gen_expr.specs.Standing.{scope_of}
use Rattle.gen_expr.proofs.NodeLaws.{then_part}
use Rattle.gen_expr.proofs.TargetLaws.{then_effect}
use Rattle.gen_expr.proofs.effects.+effect.Goals as goal

pub returns-in_ok-target-in-Step : goal.returns-in_ok-target-in-Step
returns-in_ok-target-in-Step t c =
    let s = scope_of c.args.frame.now in
    let p = scalar_view c.in-Step.p in
    let f : FitsSigned w32 c.in-Step.delta = search rules in
    rw c.in-Step.is (then_effect (direct_of s p) _ p c.in-Step.delta c.args.b _ _
    (place_items s (4 * length c.args.b.code) p)
    c.in_ok-target-in-Step.ensures.direct c.in_ok-target-in-Step.ensures.code
    (rw (to_z-of_z w32 c.in-Step.delta f) at c.step_unused.ensures))

pub returns-in_ok-effect-in-Seq : goal.returns-in_ok-effect-in-Seq
returns-in_ok-effect-in-Seq t c =
    let s = scope_of c.args.frame.now in
    rw c.in-Seq.is (then_part c.args.b _ _
    (effect_items s (4 * length c.args.b.code) (expr_view c.in-Seq.x.value))
    (λ q. effect_items s q (expr_view c.in-Seq.y.value))
    (rw c.deref-in-Seq.ensures at c.in_ok-effect-in-Seq.ensures)
    (rw c.deref.ensures at c.effect-in-Seq.ensures))
