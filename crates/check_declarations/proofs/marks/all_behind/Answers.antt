use Rattle.std.proofs.Common.{arith}
use Rattle.std.proofs.lemmas.Result.{err_from_is_err_and}
use Rattle.check_locals.specs.StoodView.{returned_view}
use Rattle.check_declarations.proofs.AgreeLaws.{so_far_begins, so_far_more}
use Rattle.check_declarations.proofs.AgreeLaws.{so_far_fails, so_far_all}
use Rattle.check_declarations.proofs.marks.all_behind.Goals as goal

pub loop-it-init : goal.loop-it-init
loop-it-init c = so_far_begins returned_view c.args.mark c.args.returns.now

pub loop-it-preserved : goal.loop-it-preserved
loop-it-preserved c =
    so_far_more returned_view c.args.mark c.args.returns.now c.loop-it.last _ c.loop-it.it-index _
    c.loop-it.invariant (omega arith)
    c.in_ok-last.ensures

pub returns-in_err-last : goal.returns-in_err-last
returns-in_err-last c =
    let p = err_from_is_err_and c.from_residual.result c.from_residual.ensures.1 in
    rw (p.1, p.2)
    (so_far_fails returned_view c.args.mark c.args.returns.now c.loop-it.last c.loop-it.it-index _ _
    c.loop-it.invariant (omega arith)
    c.in_err-last.ensures)

pub returns : goal.returns
returns c =
    so_far_all returned_view c.args.mark c.args.returns.now c.loop-it.last c.loop-it.it-index
    c.loop-it.invariant (omega arith)
