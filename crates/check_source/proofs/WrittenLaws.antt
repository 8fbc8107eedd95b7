-- The bodies of a source, declaration by declaration.
use Rattle.std.proofs.Common.{◌≡◌, [], ◌∷◌, ◌++◌, refl}
use Rattle.pawn_tree.specs.Declarations.{Decl, Variables, Constant, Enum, Native, Forward, Function}
use Rattle.pawn_tree.specs.Declarations.{Tree}
use Rattle.types_rules.specs.Groups.{written}

pub written_more : (x : Decl) (xs : Tree) → written (x ∷ xs) ≡ written (x ∷ []) ++ written xs
written_more (Variables at it) xs = refl
written_more (Constant at it) xs = refl
written_more (Enum at name items) xs = refl
written_more (Native at head) xs = refl
written_more (Forward at is_public head) xs = refl
written_more (Function at it) xs = refl
