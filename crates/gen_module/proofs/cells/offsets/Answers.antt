use Rattle.pawn_arrays.specs.Sizes.{sizes}
use Rattle.gen_sim.specs.Pieces.{vectors}
use Rattle.gen_module.proofs.DataLaws.{shape_layout}
use Rattle.gen_module.proofs.cells.offsets.Goals as goal

pub returns-in-Some : goal.returns-in-Some
returns-in-Some c =
    c.layout.ensures.only (vectors (sizes c.args.shape.now)) (shape_layout c.args.shape.now)
