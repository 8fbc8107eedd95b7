use Rattle.std.proofs.Common.{[], ◌∷◌, drop, map}
use Rattle.pawn_meaning.specs.View.{slot_view}
use Rattle.amx_ops.specs.declared.op.Op.TheVariants as op
use Rattle.gen_sim.specs.JumpCode.{jump_to}
use Rattle.gen_sim.specs.FlowCode.{leave_code}
use Rattle.gen_stmt.specs.Led.{exit_at}
use Rattle.gen_stmt.proofs.GrownLaws.{then_grown}
use Rattle.gen_stmt.proofs.left.leave_loop.Goals as goal

pub returns : goal.returns
returns c =
    then_grown c.args.b c.in_ok-left.left c.in_ok-done.done
    (λ exits. leave_code (map slot_view c.args.place.now.slots.now)
    (drop c.args.since.made c.args.locals.now.made.items))
    (λ exits. jump_to op.Jump (exit_at exits c.args.exit) ∷ []) c.in_ok-left.ensures
    c.in_ok-done.ensures
