use Rattle.std.proofs.Common.{◌≡◌, ◌++◌, map, drop}
use Rattle.pawn_meaning.specs.View.{object_view}
use Rattle.gen_module.specs.Data.{objects_data}
use Rattle.gen_module.proofs.cells.objects_cells.Given as goal

abbrev pub invariant-loop-object : goal.invariant-loop-object
invariant-loop-object l =
    l.all ++ objects_data (map object_view (drop l.object-index l.objects))
    ≡ objects_data (map object_view l.objects)
