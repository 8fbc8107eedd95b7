-- The names of public functions are those of bodies.
use Rattle.std.proofs.Common.{◌≡◌, ◌+◌, ◌≤◌, ℕ, List, [], ◌∷◌, ◌++◌, Bool, true, false, refl, sym}
use Rattle.std.proofs.Common.{ap, subst, arith}
use Rattle.std.specs.Prelude.{if◌then◌else◌, length, map}
use Rattle.pawn_tree.specs.Declarations.{Variables, Constant, Enum, Native, Forward, Function, Tree}
use Rattle.pawn_meaning.specs.Program.{Public}
use Rattle.pawn_meaning.specs.ProgramNames.{IsName}
use Rattle.types_rules.specs.Keys.{Key, same_key}
use Rattle.types_rules.specs.Groups.{Written, Group, written, with_body, body_key, grouped}
use Rattle.types_rules.specs.Headings.{public_name}
use Rattle.types_rules.specs.Sources.{Source}
use Rattle.types_rules.specs.Publics.{not_above, inserted, sorted, group_name, is_public}
use Rattle.types_rules.specs.Publics.{publics_from, publics}
use Rattle.types_laws.specs.Objects.{Each}
use Rattle.types_laws.proofs.Sizes.{sizes}
use Rattle.types_laws.proofs.TreeCounts.{IsNamedDecl}

abbrev pub written_name : Written → List ℕ
written_name it = public_name it.function.head.name

abbrev pub written_sizes : List Written → ℕ
written_sizes [] = 0
written_sizes (it ∷ more) = length (written_name it) + written_sizes more

-- ---- functions

abbrev group_sizes : List Group → ℕ
group_sizes [] = 0
group_sizes (group ∷ more) = length (group_name group.bodies) + group_sizes more

name_more : (bodies : List Written) (it : Written)
    → length (group_name (bodies ++ it ∷ [])) ≤ length (group_name bodies)
    + length (written_name it)
name_more [] it = omega arith
name_more (x ∷ more) it = omega arith

sizes_by : (group : Group) (more : List Group) (key : Key) (it : Written) (b : Bool)
    → group_sizes (with_body more key it) ≤ group_sizes more + length (written_name it)
    → group_sizes (if b then record group { bodies = group.bodies ++ it ∷ [] } ∷ more
    else group ∷ with_body more key it)
    ≤ group_sizes (group ∷ more) + length (written_name it)
sizes_by group more key it true h = omega (arith, name_more group.bodies it)
sizes_by group more key it false h = omega (arith, h)

body_sizes : (groups : List Group) (key : Key) (it : Written)
    → group_sizes (with_body groups key it) ≤ group_sizes groups + length (written_name it)
body_sizes [] key it = omega arith
body_sizes (group ∷ more) key it =
    sizes_by group more key it (same_key group.key key) (body_sizes more key it)

grouped_sizes : (names : List (List ℕ)) (fallback : List ℕ) (groups : List Group)
    (all : List Written)
    → group_sizes (grouped names fallback groups all) ≤ group_sizes groups + written_sizes all
unfolding grouped
grouped_sizes names fallback groups [] = omega arith
grouped_sizes names fallback groups (it ∷ more) =
    omega (
      arith,
      body_sizes groups (body_key names fallback it) it,
      grouped_sizes names fallback (with_body groups (body_key names fallback it) it) more,
    )

abbrev IsNamedGroup : Group → Type 0
IsNamedGroup group = IsName (group_name group.bodies)

named_more : (bodies : List Written) (it : Written) → IsName (written_name it)
    → IsName (group_name bodies) → IsName (group_name (bodies ++ it ∷ []))
named_more [] it h k = h
named_more (x ∷ more) it h k = k

named_by : (group : Group) (more : List Group) (key : Key) (it : Written) (b : Bool)
    → IsName (written_name it) → Each IsNamedGroup (group ∷ more)
    → Each IsNamedGroup (with_body more key it)
    → Each IsNamedGroup (if b then record group { bodies = group.bodies ++ it ∷ [] } ∷ more
    else group ∷ with_body more key it)
named_by group more key it true h k ih = (named_more group.bodies it h k.0, k.1)
named_by group more key it false h k ih = (k.0, ih)

body_named : (groups : List Group) (key : Key) (it : Written) → IsName (written_name it)
    → Each IsNamedGroup groups → Each IsNamedGroup (with_body groups key it)
body_named [] key it h k = (h, tt)
body_named (group ∷ more) key it h k =
    named_by group more key it (same_key group.key key) h k (body_named more key it h k.1)

grouped_named : (names : List (List ℕ)) (fallback : List ℕ) (groups : List Group)
    (all : List Written) → Each (λ it. IsName (written_name it)) all → Each IsNamedGroup groups
    → Each IsNamedGroup (grouped names fallback groups all)
unfolding grouped
grouped_named names fallback groups [] h k = k
grouped_named names fallback groups (it ∷ more) h k =
    grouped_named names fallback (with_body groups (body_key names fallback it) it) more h.1
    (body_named groups (body_key names fallback it) it h.0 k)

-- ---- publics

abbrev pub public_names : List Public → List (List ℕ)
public_names all = map (λ (it : Public). it.name) all

from_by : (it : Public) (rest : List Public) (b : Bool) (n total : ℕ) → length it.name ≡ n
    → sizes (public_names rest) ≤ total
    → sizes (public_names (if b then it ∷ rest else rest)) ≤ n + total
from_by it rest true n total e h = omega (arith, e, h)
from_by it rest false n total e h = omega (arith, h)

from_sizes : (source : Source) (k : ℕ) (groups : List Group)
    → sizes (public_names (publics_from source k groups)) ≤ group_sizes groups
unfolding publics_from
from_sizes source k [] = omega arith
from_sizes source k (group ∷ more) =
    from_by (record { name = group_name group.bodies; function = k })
    (publics_from source (k + 1) more) (is_public source group) (length (group_name group.bodies))
    (group_sizes more) refl (from_sizes source (k + 1) more)

keep_by : (it : Public) (rest : List Public) (b : Bool) → IsName it.name
    → Each IsName (public_names rest) → Each IsName (public_names (if b then it ∷ rest else rest))
keep_by it rest true h k = (h, k)
keep_by it rest false h k = k

from_named : (source : Source) (k : ℕ) (groups : List Group) → Each IsNamedGroup groups
    → Each IsName (public_names (publics_from source k groups))
unfolding publics_from
from_named source k [] h = tt
from_named source k (group ∷ more) h =
    keep_by (record { name = group_name group.bodies; function = k })
    (publics_from source (k + 1) more) (is_public source group) h.0
    (from_named source (k + 1) more h.1)

inserted_by : (it other : Public) (more : List Public) (b : Bool)
    → sizes (public_names (inserted it more)) ≡ length it.name + sizes (public_names more)
    → sizes (public_names (if b then other ∷ inserted it more else it ∷ (other ∷ more)))
    ≡ length it.name + sizes (public_names (other ∷ more))
inserted_by it other more true h = omega (arith, h)
inserted_by it other more false h = refl

inserted_sizes : (it : Public) (all : List Public)
    → sizes (public_names (inserted it all)) ≡ length it.name + sizes (public_names all)
inserted_sizes it [] = refl
inserted_sizes it (other ∷ more) =
    inserted_by it other more (not_above other.name it.name) (inserted_sizes it more)

sorted_sizes : (done all : List Public)
    → sizes (public_names (sorted done all)) ≡ sizes (public_names done) + sizes (public_names all)
unfolding sorted
sorted_sizes done [] = omega arith
sorted_sizes done (it ∷ more) =
    omega (arith, sorted_sizes (inserted it done) more, inserted_sizes it done)

put_by : (it other : Public) (more : List Public) (b : Bool) → IsName it.name
    → Each IsName (public_names (other ∷ more)) → Each IsName (public_names (inserted it more))
    → Each IsName (public_names (if b then other ∷ inserted it more else it ∷ (other ∷ more)))
put_by it other more true h k ih = (k.0, ih)
put_by it other more false h k ih = (h, k)

inserted_named : (it : Public) (all : List Public) → IsName it.name → Each IsName (public_names all)
    → Each IsName (public_names (inserted it all))
inserted_named it [] h k = (h, tt)
inserted_named it (other ∷ more) h k =
    put_by it other more (not_above other.name it.name) h k (inserted_named it more h k.1)

sorted_named : (done all : List Public) → Each IsName (public_names done)
    → Each IsName (public_names all) → Each IsName (public_names (sorted done all))
unfolding sorted
sorted_named done [] h k = h
sorted_named done (it ∷ more) h k =
    sorted_named (inserted it done) more (inserted_named it done k.0 h) k.1

-- ---- of a tree

tree_written : (tree : Tree) → Each IsNamedDecl tree
    → Each (λ it. IsName (written_name it)) (written tree)
tree_written [] h = tt
tree_written (Variables at of ∷ more) h = tree_written more h.1
tree_written (Constant at of ∷ more) h = tree_written more h.1
tree_written (Enum at name items ∷ more) h = tree_written more h.1
tree_written (Native at head ∷ more) h = tree_written more h.1
tree_written (Forward at is_public head ∷ more) h = tree_written more h.1
tree_written (Function at of ∷ more) h = (h.0, tree_written more h.1)

pub publics_named : (source : Source) (names : List (List ℕ)) (fallback : List ℕ) (tree : Tree)
    → source.groups ≡ grouped names fallback [] (written tree) → Each IsNamedDecl tree
    → Each IsName (public_names (publics source))
publics_named source names fallback tree e h =
    sorted_named [] (publics_from source 0 source.groups) tt
    (from_named source 0 source.groups
    (subst (λ (groups : List Group). Each IsNamedGroup groups) (sym e)
    (grouped_named names fallback [] (written tree) (tree_written tree h) tt)))

pub publics_size : (source : Source) (names : List (List ℕ)) (fallback : List ℕ) (tree : Tree)
    → source.groups ≡ grouped names fallback [] (written tree)
    → sizes (public_names (publics source)) ≤ written_sizes (written tree)
publics_size source names fallback tree e =
    omega (
      arith,
      sorted_sizes [] (publics_from source 0 source.groups),
      from_sizes source 0 source.groups,
      ap (λ (groups : List Group). group_sizes groups) e,
      grouped_sizes names fallback [] (written tree),
    )
