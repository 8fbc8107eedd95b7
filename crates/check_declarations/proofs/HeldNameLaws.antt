-- Names of functions that code holds.
use Rattle.std.proofs.Common.{◌≡◌, ℕ, List, [], ◌∷◌, map, refl, ap}
use Rattle.types_rules.specs.Groups as plain
use Rattle.types_rules.specs.Publics.{group_name}
use Rattle.check_source.specs.declared.groups.Group.{Group}
use Rattle.check_source.specs.GroupsView.{group_view, groups_view}

pub names_are : (groups : List Group)
    → map (λ (it : Group). group_name (group_view it).bodies) groups
    ≡ map (λ (it : plain.Group). group_name it.bodies) (groups_view groups)
names_are [] = refl
names_are (x ∷ xs) =
    ap (λ (more : List (List ℕ)). group_name (group_view x).bodies ∷ more) (names_are xs)
