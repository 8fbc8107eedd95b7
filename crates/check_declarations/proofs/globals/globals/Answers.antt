use Rattle.std.proofs.Common.{arith}
use Rattle.check_declarations.specs.DoneView.{done_view}
use Rattle.check_declarations.proofs.DeclLaws.{globals_are, told_begins, told_more, told_fails}
use Rattle.check_declarations.proofs.DeclLaws.{told_all}
use Rattle.check_declarations.proofs.ToldLaws.{exit_tells, exit_ok}
use Rattle.check_declarations.proofs.globals.globals.Goals as goal

pub loop-i-init : goal.loop-i-init
loop-i-init c = rw c.nothing.ensures (told_begins _ _ _ _ _ _ _)

pub loop-i-preserved : goal.loop-i-preserved
loop-i-preserved c =
    told_more _ _ _ _ _ (globals_are _ _ _ _) _ _ _ _ _ _ _ _ _ c.loop-i.invariant (omega arith)
    c.index-vars-i.is c.in_ok-it.ensures.tells c.in_ok-it.ensures.behind c.in_ok-done.ensures

pub returns-in_err-it : goal.returns-in_err-it
returns-in_err-it c =
    let fails = told_fails _ _ _ _ _ (globals_are _ _ _ _) _ _ _ _ _ c.index-vars-i.result _
    c.loop-i.invariant (omega arith) c.index-vars-i.is c.in_err-it.ensures.tells in
    record {
      tells = exit_tells done_view _ c.from_residual.result _ c.from_residual.ensures.1 fails;
      behind = exit_ok _ c.from_residual.result _ c.from_residual.ensures.1;
    }

pub returns : goal.returns
returns c =
    let all = told_all _ _ _ _ _ (globals_are _ _ _ _) _ _ _ _ _ c.loop-i.invariant (omega arith) in
    record { tells = all.0; behind = all.1 }
