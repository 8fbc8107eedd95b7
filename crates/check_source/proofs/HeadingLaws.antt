-- The headings of a source, declaration by declaration.
use Rattle.std.proofs.Common.{◌≡◌, [], ◌∷◌, ◌++◌, refl}
use Rattle.pawn_tree.specs.Declarations.{Decl, Variables, Constant, Enum, Native, Forward, Function}
use Rattle.pawn_tree.specs.Declarations.{Tree}
use Rattle.types_rules.specs.Headings.{headings}

pub headings_more : (x : Decl) (xs : Tree) → headings (x ∷ xs) ≡ headings (x ∷ []) ++ headings xs
headings_more (Variables at it) xs = refl
headings_more (Constant at it) xs = refl
headings_more (Enum at name items) xs = refl
headings_more (Native at head) xs = refl
headings_more (Forward at is_public head) xs = refl
headings_more (Function at it) xs = refl
