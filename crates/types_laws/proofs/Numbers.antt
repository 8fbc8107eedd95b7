-- The numbers of tags and functions in a program are small enough.
use Rattle.std.proofs.Common.{◌≡◌, ◌+◌, ◌<◌, ◌≤◌, ◌≤ℤ◌, ℕ, suc, ℤ, pos, List, [], ◌∷◌, Bool, true}
use Rattle.std.proofs.Common.{false, Option, None, Some, refl, ap, arith}
use Rattle.std.specs.Prelude.{if◌then◌else◌, length, nat_eq, not, ◌&&◌, int_le, IfSome}
use Rattle.std.proofs.lemmas.Bool.{and_parts}
use Rattle.std.proofs.lemmas.Float.{T_from_true}
use Rattle.std.proofs.lemmas.Int.{ints}
use Rattle.pawn_cells.specs.Cells.{IsCell}
use Rattle.pawn_meaning.specs.Program.{Tag, Public}
use Rattle.pawn_tags.specs.Tags.{untagged}
use Rattle.pawn_meaning.specs.declared.program_limits.TheConstants.{DYNAMIC_LIMIT}
use Rattle.names_rules.specs.Mark.{Mark}
use Rattle.types_rules.specs.Keys.{Key, same_key}
use Rattle.types_rules.specs.Groups.{Group, number_of}
use Rattle.types_rules.specs.Sources.{Source, Stated}
use Rattle.types_rules.specs.Publics.{not_above, inserted, sorted, group_name, is_public}
use Rattle.types_rules.specs.Publics.{publics_from, publics}
use Rattle.types_rules.specs.Declarations.{Bodied}
use Rattle.types_rules.specs.Programs.{mentions, tags_from, program_functions}
use Rattle.types_rules.specs.TypedTrees.{whole_fault, dynamic_faults}
use Rattle.types_laws.specs.Objects.{Each}
use Rattle.types_laws.proofs.Facts.{position_within}

-- ---- tags

tag_by : (P : Tag → Type 0) (tag : Tag) (rest : List Tag) (a b : Bool) → P tag → Each P rest
    → Each P (if a then rest else if b then tag ∷ rest else rest)
tag_by P tag rest true b h k = k
tag_by P tag rest false true h k = (h, k)
tag_by P tag rest false false h k = k

pub tags_small : (marks : List Mark) (n limit : ℕ) (names : List (List ℕ))
    → n + length names ≤ limit
    → Each (λ (tag : Tag). tag.number < limit) (tags_from marks n names)
unfolding tags_from
tags_small marks n limit [] h = tt
tags_small marks n limit (name ∷ more) h =
    tag_by (λ (tag : Tag). tag.number < limit) (record { number = n; name = name })
    (tags_from marks (n + 1) more) (nat_eq n untagged) (mentions marks name) (omega (arith, h))
    (tags_small marks (n + 1) limit more (omega (arith, h)))

-- ---- publics

public_by : (P : Public → Type 0) (it : Public) (rest : List Public) (b : Bool) → P it → Each P rest
    → Each P (if b then it ∷ rest else rest)
public_by P it rest true h k = (h, k)
public_by P it rest false h k = k

publics_small : (source : Source) (n limit : ℕ) (groups : List Group) → n + length groups ≤ limit
    → Each (λ (it : Public). it.function < limit) (publics_from source n groups)
unfolding publics_from
publics_small source n limit [] h = tt
publics_small source n limit (group ∷ more) h =
    public_by (λ (it : Public). it.function < limit)
    (record { name = group_name group.bodies; function = n }) (publics_from source (n + 1) more)
    (is_public source group) (omega (arith, h))
    (publics_small source (n + 1) limit more (omega (arith, h)))

inserted_by : (P : Public → Type 0) (it other : Public) (more : List Public) (b : Bool) → P it
    → Each P (other ∷ more) → Each P (inserted it more)
    → Each P (if b then other ∷ inserted it more else it ∷ (other ∷ more))
inserted_by P it other more true h k ih = (k.0, ih)
inserted_by P it other more false h k ih = (h, k)

inserted_each : (P : Public → Type 0) (it : Public) (all : List Public) → P it → Each P all
    → Each P (inserted it all)
inserted_each P it [] h k = (h, tt)
inserted_each P it (other ∷ more) h k =
    inserted_by P it other more (not_above other.name it.name) h k (inserted_each P it more h k.1)

sorted_each : (P : Public → Type 0) (done all : List Public) → Each P done → Each P all
    → Each P (sorted done all)
unfolding sorted
sorted_each P done [] h k = h
sorted_each P done (it ∷ more) h k =
    sorted_each P (inserted it done) more (inserted_each P it done k.0 h) k.1

pub publics_within : (source : Source)
    → Each (λ (it : Public). it.function < length source.groups) (publics source)
publics_within source =
    sorted_each (λ (it : Public). it.function < length source.groups) []
    (publics_from source 0 source.groups) tt
    (publics_small source 0 (length source.groups) source.groups (omega arith))

-- ---- functions

pub functions_count : (source : Source) (all : List Stated) (n : ℕ) (groups : List Group)
    (bodies : List Bodied) → length (program_functions source all n groups bodies) ≡ length groups
unfolding program_functions
functions_count source all n [] bodies = refl
functions_count source all n (group ∷ more) bodies =
    ap suc (functions_count source all (n + 1) more bodies)

pub entry_within : (groups : List Group) (key : Key)
    → IfSome (number_of groups key) (λ f. f < length groups)
entry_within groups key = by (number_of groups key) refl
  where
    by : (o : Option ℕ) → number_of groups key ≡ o → IfSome o (λ f. f < length groups)
    by None e = tt
    by (Some f) e = position_within (λ (group : Group). same_key group.key key) groups f e

-- ---- the room

no_fault : (b : Bool) (kind : ℕ) → whole_fault (not b) kind ≡ [] → b ≡ true
no_fault true kind e = refl
no_fault false kind e = absurd (let never : ⊥ = cc in never)

at_most : (a b : ℤ) → int_le a b ≡ true → a ≤ℤ b
at_most a b e = record { le = T_from_true (int_le a b) e }

pub room_cell : (dynamic : ℤ) → dynamic_faults dynamic ≡ [] → IsCell dynamic
room_cell dynamic e =
    let parts = and_parts (int_le (pos 0) dynamic) (int_le dynamic DYNAMIC_LIMIT)
    (no_fault (int_le (pos 0) dynamic && int_le dynamic DYNAMIC_LIMIT) _ e) in
    let low = at_most (pos 0) dynamic parts.0 in
    let high = at_most dynamic DYNAMIC_LIMIT parts.1 in
    omega (arith, ints, low, high)
