-- The path at the level of the file: what a declaration adds to it for those behind it.
use Rattle.std.specs.Prelude.{List, [], ◌∷◌, ◌++◌, Option}
use Rattle.pawn_tree.specs.declared.variable.Storage.TheVariants as storage
use Rattle.pawn_tree.specs.Declarations.{Decl, Variables, Constant, Enum, Native, Forward, Function}
use Rattle.pawn_tree.specs.Declarations.{Tree}
use Rattle.types_rules.specs.Around.{Around, Head}
use Rattle.types_rules.specs.Counts.{objects_in}
use Rattle.types_rules.specs.Points.{Point, beyond, tag_of, behind_vars, behind_constant}
use Rattle.types_rules.specs.Params.{head_rule, head_of}
use Rattle.types_rules.specs.Enums.{behind_enum}

module _ (cx : Around) where
  -- behind a declaration. All variables of the file are objects
  abbrev pub behind_decl : Point → Decl → Point
  behind_decl point (Variables at it) = behind_vars cx point at storage.Static it.constant it.vars
  behind_decl point (Constant at it) = behind_constant cx point at it
  behind_decl point (Enum at name items) =
      record point { scope = behind_enum cx point.scope at (tag_of cx name) name items }
  behind_decl point (Native at head) = point
  behind_decl point (Forward at is_public head) = point
  behind_decl point (Function at it) = beyond point (objects_in it.body) 0

  -- the heads of a declaration, by the path where it stands
  abbrev pub heads_of : Point → Decl → List (Option Head)
  heads_of point (Variables at it) = []
  heads_of point (Constant at it) = []
  heads_of point (Enum at name items) = []
  heads_of point (Native at head) = head_of (head_rule cx at point.scope head) ∷ []
  heads_of point (Forward at is_public head) = head_of (head_rule cx at point.scope head) ∷ []
  heads_of point (Function at it) = head_of (head_rule cx at point.scope it.head) ∷ []

  -- all heads of a source, in order
  unfoldable pub heads : Point → Tree → List (Option Head)
  heads point [] = []
  heads point (decl ∷ more) = heads_of point decl ++ heads (behind_decl point decl) more
