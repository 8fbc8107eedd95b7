-- The cells of objects one behind another, each with the offsets of its rows.
use Rattle.std.specs.Prelude.{ℤ, List, [], ◌∷◌, ◌++◌}
use Rattle.pawn_meaning.specs.Program.{StaticObject}
use Rattle.gen_sim.specs.Pieces.{vectors}

-- their first values, as a file's data has them
abbrev pub objects_data : List StaticObject → List ℤ
objects_data [] = []
objects_data (it ∷ objects) = (vectors it.sizes ++ it.first) ++ objects_data objects
