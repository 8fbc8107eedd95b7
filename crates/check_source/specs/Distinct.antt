-- The automata that entry functions name, as far as it matters: none, one, or several.
use Rattle.std.specs.Prelude.{ℕ, List, [], ◌∷◌, if◌then◌else◌, Option, None, Some}
use Rattle.std.specs.Str.{bytes_eq}
use Rattle.pawn_tree.specs.declared.name.StateName.{StateName}
use Rattle.types_rules.specs.Clauses.{clause}
use Rattle.types_rules.specs.Groups.{Written, is_entry}
use Rattle.check_source.specs.declared.fallback.Distinct as held
use Rattle.check_source.specs.declared.fallback.Distinct.TheVariants as distinct

-- no automaton, one, or several
pub data Distinct : Type 0 where
  Nothing : Distinct
  One : List ℕ → Distinct
  Several : Distinct

-- as code holds them
abbrev pub distinct_view : held.Distinct → Distinct
distinct_view distinct.Nothing = Nothing
distinct_view (distinct.One name) = One name.now
distinct_view distinct.Several = Several

-- those of a list of names without repetition
abbrev pub distinct_of : List (List ℕ) → Distinct
distinct_of [] = Nothing
distinct_of (name ∷ []) = One name
distinct_of (name ∷ second ∷ more) = Several

-- with a name more
abbrev pub with_distinct : Distinct → List ℕ → Distinct
with_distinct Nothing name = One name
with_distinct (One known) name = if bytes_eq name known then One known else Several
with_distinct Several name = Several

-- with that of a classifier
abbrev pub states_distinct : Distinct → Option (List StateName) → Distinct
states_distinct before None = before
states_distinct before (Some []) = before
states_distinct before (Some (it ∷ more)) = with_distinct before (clause (it ∷ more)).automaton

-- with that of a body
abbrev pub body_distinct : Distinct → Written → Distinct
body_distinct before it =
    if is_entry it.function.head.name then states_distinct before it.function.states else before

-- with those of bodies in order
abbrev pub bodies_distinct : Distinct → List Written → Distinct
bodies_distinct before [] = before
bodies_distinct before (it ∷ more) = bodies_distinct (body_distinct before it) more

-- the one that is alone
abbrev pub only_of : Distinct → List ℕ
only_of Nothing = []
only_of (One name) = name
only_of Several = []
