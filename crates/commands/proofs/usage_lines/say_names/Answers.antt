use Rattle.std.proofs.Common.{arith}
use Rattle.std.proofs.lemmas.Result.{err_from_is_err_and}
use Rattle.pawn_outside.proofs.SoFarLaws.{so_far_none, so_far_more, so_far_cut, so_far_done}
use Rattle.commands.proofs.UsageLaws.{from_end, from_function}
use Rattle.commands.proofs.usage_lines.say_names.Goals as goal

pub loop-function-init : goal.loop-function-init
loop-function-init g c = so_far_none c.args.out.now _

pub loop-function-preserved : goal.loop-function-preserved
loop-function-preserved g c =
    let first =
    from_function c.args.names.now c.args.chain.now c.loop-function.function-index
    c.loop-function-test.true in
    so_far_more c.loop-function.invariant first c.in_ok-say_name.ensures

pub returns-in_err-say_name : goal.returns-in_err-say_name
returns-in_err-say_name g c =
    let first =
    from_function c.args.names.now c.args.chain.now c.loop-function.function-index
    c.loop-function-test.true in
    let is = err_from_is_err_and c.from_residual.result c.from_residual.ensures.1 in
    so_far_cut c.loop-function.invariant _ first c.from_residual.result is.1
    c.in_err-say_name.ensures

pub returns : goal.returns
returns g c =
    so_far_done c.loop-function.invariant
    (from_end c.args.names.now c.args.chain.now c.loop-function.function-index
    (omega (arith, c.loop-function-test.false)))
