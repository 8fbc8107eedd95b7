use Rattle.std.proofs.Common.{arith}
use Rattle.check_declarations.proofs.DeclLaws.{placed_begins, placed_more, placed_all}
use Rattle.check_declarations.proofs.globals.declare_vars.Goals as goal

pub loop-i-init : goal.loop-i-init
loop-i-init c = placed_begins _ _ _ _ _

pub loop-i-preserved : goal.loop-i-preserved
loop-i-preserved c =
    placed_more _ _ _ _ _ _ _ _ c.index-vars-i.result c.loop-i.invariant (omega arith)
    c.index-vars-i.is
    c.in_ok-declare_var.ensures

pub returns : goal.returns
returns c = placed_all _ _ _ _ _ _ _ c.loop-i.invariant (omega arith)
