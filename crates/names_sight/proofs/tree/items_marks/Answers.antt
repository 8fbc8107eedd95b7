use Rattle.std.proofs.Common.{arith, sym, ◌∙◌}
use Rattle.names_sight.proofs.MarkLaws.{items_begin, item_goes_on, items_end}
use Rattle.names_sight.proofs.tree.items_marks.Goals as goal

pub loop-i-init : goal.loop-i-init
loop-i-init c = items_begin _ _ _ _

pub loop-i-preserved : goal.loop-i-preserved
loop-i-preserved c =
    rw c.in_ok-item_marks.ensures (item_goes_on _ _ _ _ _ c.loop-i.invariant
    (omega arith) c.index-items-i.is)
