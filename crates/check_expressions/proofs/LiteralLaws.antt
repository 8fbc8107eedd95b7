-- The cells of a literal are those of its first object.
use Rattle.std.proofs.Common.{◌≡◌, ◌≤◌, List, [], ◌∷◌, length, get_or, map, refl, sym, ap, arith}
use Rattle.pawn_meaning.specs.View.{object_view}
use Rattle.pawn_meaning.specs.declared.program.Object.{Object}
use Rattle.types_rules.specs.FirstValues.{object_cells}

pub first_object : (objects : List Object) (object : Object) → object ≡ get_or objects 0 object
    → 1 ≤ length objects → object_cells (map object_view objects) ≡ object.first
first_object [] object e le = absurd (omega (arith, le))
first_object (it ∷ more) object e le = ap (λ (x : Object). x.first) (sym e)

pub no_object : (objects : List Object) → length objects ≡ 0
    → object_cells (map object_view objects) ≡ []
no_object [] e = refl
no_object (it ∷ more) e = absurd (omega (arith, e))
