use Rattle.std.proofs.Common.{◌<◌, length, refl, arith, rules, w32, FitsSigned}
use Rattle.std.specs.Prelude.{slice_set}
use Rattle.std.proofs.lemmas.Int.{to_z-of_z}
use Rattle.amx_block.proofs.LoadLaws.{cell_more}
use Rattle.amx_block.proofs.load.put_cells.Goals as goal

pub loop-place-preserved : goal.loop-place-preserved
loop-place-preserved c =
    let l = c.loop-place in
    let v = c.cell_of-cell.result in
    let fit : FitsSigned w32 v = search rules in
    let here : l.place < length l.cells.items =
    omega (arith, l.invariant.size, c.loop-place-test.true, c.requires.cells) in
    rw (to_z-of_z w32 v fit)
    (cell_more c.args.bytes.now c.args.cells.now.items l.cells.items
    (slice_set l.cells.items l.place v) l.place v refl here fit c.cell_of-cell.ensures l.invariant)
