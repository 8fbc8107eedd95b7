use Rattle.std.proofs.Common.{w32, FitsSigned, rules}
use Rattle.std.proofs.lemmas.Int.{to_z-of_z}
use Rattle.check_calls.proofs.PackedTextLaws.{packed_more}
use Rattle.check_calls.proofs.text_cells.packed_text.Goals as goal

pub loop-i-preserved : goal.loop-i-preserved
loop-i-preserved c =
    let fits : FitsSigned w32 c.whole_cell-cell.result = search rules in
    packed_more _ _ _ _ _ c.loop-i.invariant c.whole_cell-cell.ensures
    (rw (to_z-of_z w32 c.whole_cell-cell.result fits) at c.in_ok-push.ensures.ok)
