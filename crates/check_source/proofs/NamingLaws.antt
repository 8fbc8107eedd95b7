-- Whether another body of a function names states is told by its number.
use Rattle.std.proofs.Common.{◌≡◌, ◌≤◌, ℕ, suc, Bool, true, false, cond, if◌then◌else◌, List, []}
use Rattle.std.proofs.Common.{◌∷◌, map, length, Option, None, Some, option_map, refl, sym, ap, ◌∙◌}
use Rattle.std.proofs.Common.{arith}
use Rattle.std.specs.Prelude.{find}
use Rattle.pawn_tree.specs.declared.name.StateName.{StateName}
use Rattle.types_rules.specs.Keys.{Key, same_key}
use Rattle.types_rules.specs.Groups.{Group, number_of}
use Rattle.types_rules.specs.Automata.{names_states, names_some, has_other}
use Rattle.check_source.proofs.PlaceLaws.{place, place_is}
use Rattle.check_source.specs.Naming.{group_names, named_at}

pub some_state : (states : List StateName) → 1 ≤ length states → names_states (Some states) ≡ true
some_state [] h = absurd (omega (arith, h))
some_state (it ∷ more) h = refl

abbrev has_key : Key → Group → Bool
has_key key group = same_key group.key key

shifted : (b : Bool) (bs : List Bool) (number : Option ℕ)
    → named_at bs number ≡ named_at (b ∷ bs) (option_map suc number)
shifted b bs None = refl
shifted b bs (Some n) = refl

by_first : (b : Bool) (group : Group) (more : List Group) (found : Option Group) (number : Option ℕ)
    → names_some found ≡ named_at (map group_names more) number
    → names_some (cond b (Some group) found)
    ≡ named_at (group_names group ∷ map group_names more)
    (if b then Some 0 else option_map suc number)
by_first true group more found number h = refl
by_first false group more found number h =
    h ∙ shifted (group_names group) (map group_names more) number

by_place : (groups : List Group) (key : Key)
    → names_some (find (has_key key) groups)
    ≡ named_at (map group_names groups) (place (has_key key) groups)
by_place [] key = refl
by_place (group ∷ more) key =
    by_first (same_key group.key key) group more (find (has_key key) more)
    (place (has_key key) more) (by_place more key)

pub other_at : (names : List (List ℕ)) (fallback : List ℕ) (groups : List Group) (key : Key)
    → has_other names fallback groups key ≡ named_at (map group_names groups) (number_of groups key)
other_at names fallback groups key =
    by_place groups key ∙ ap (named_at (map group_names groups))
    (sym (place_is (has_key key) groups))
