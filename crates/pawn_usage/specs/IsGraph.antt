-- What is kept of a program while its calls are searched.
use Rattle.std.specs.Prelude.{◌≡◌, map}
use Rattle.pawn_meaning.specs.Program.{Function, Program}
use Rattle.pawn_meaning.specs.Need.{need}
use Rattle.pawn_meaning.specs.View.{program_view}
use Rattle.pawn_usage.specs.declared.graph.Graph.{Graph}
use Rattle.pawn_usage.specs.Called.{called_by_bodies}

-- the program as plain data
abbrev pub plain : Graph → Program
plain graph = program_view graph.program.now

-- the functions that each function calls, and what each needs
pub record IsGraph (graph : Graph) : Type 0 where
  pub called_are : graph.called
      ≡ map (λ (it : Function). called_by_bodies (plain graph) it.bodies) (plain graph).functions
  pub needs_are : graph.needs ≡ map need (plain graph).functions
