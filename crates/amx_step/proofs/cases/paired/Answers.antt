use Rattle.std.proofs.Common.{◌≡◌, ◌∷◌, false, w32, to_z, of_z, rules}
use Rattle.pawn_cells.specs.Cells.{equal}
use Rattle.amx_step.proofs.CaseLaws.{pair_next}
use Rattle.amx_step.proofs.cases.paired.Goals as goal

pub loop-done-preserved : goal.loop-done-preserved
loop-done-preserved c =
    let found = c.in-Some.found.now in
    let address = c.in-Some-split_first.address.now in
    let others = c.in-Some-split_first.others.now in
    let is : c.loop-done.rest.now ≡ found ∷ address ∷ others = search rules in
    let other : equal found (to_z w32 (of_z w32 c.args.value)) ≡ false = search rules in
    pair_next c.loop-done.rest.now (to_z w32 (of_z w32 c.args.value)) c.args.count c.loop-done.done
    c.args.other _ c.loop-done-test.true c.loop-done.invariant
    found address others is other
