use Rattle.std.proofs.Common.{ℤ, ap, ◌∙◌, ◌++◌, ◌∷◌, [], arith}
use Rattle.std.specs.Int.{w32}
use Rattle.std.proofs.lemmas.Int.{to_z-of_z}
use Rattle.amx_format.proofs.ReadLaws.{cells_step}
use Rattle.amx_format.proofs.reader.read_plain.Goals as goal

pub loop-index-preserved : goal.loop-index-preserved
loop-index-preserved c =
    let cell =
    to_z-of_z w32 c.read_cell.result c.read_cell.ensures.fits ∙ c.read_cell.ensures.cell in
    cells_step c.args.bytes.now c.args.place c.args.count c.loop-index.index c.loop-index.row
    c.push.new.self _ (omega arith)
    (c.in_ok-push.ensures.ok ∙ ap (λ (z : ℤ). c.loop-index.row ++ z ∷ []) cell)
    c.loop-index.invariant
