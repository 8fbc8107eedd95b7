use Rattle.std.proofs.Common.{◌≡◌, refl, arith}
use Rattle.check_heads.proofs.EnumLaws.{declared_more, declared_all}
use Rattle.check_heads.proofs.enums.declare_items.Goals as goal

pub loop-i-init : goal.loop-i-init
loop-i-init c = record { same = refl }

pub loop-i-preserved : goal.loop-i-preserved
loop-i-preserved c =
    declared_more _ _ _ _ _ _ _ _ _ c.loop-i.invariant (omega arith) c.index-items-i.is
    c.in_ok-next.ensures.scope

pub returns : goal.returns
returns c = declared_all _ _ _ _ _ _ _ c.loop-i.invariant (omega arith)
