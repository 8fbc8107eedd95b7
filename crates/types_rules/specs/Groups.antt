-- The functions of a source: bodies with one key are one function, which counts from its first
-- body.
use Rattle.std.specs.Prelude.{ℕ, List, [], ◌∷◌, ◌++◌, Bool, false, if◌then◌else◌, Option, None}
use Rattle.std.specs.Prelude.{Some, position}
use Rattle.std.specs.Str.{bytes_eq}
use Rattle.pawn_base.specs.Among.{with_name}
use Rattle.pawn_tree.specs.declared.name.At.{At}
use Rattle.pawn_tree.specs.declared.name.StateName.{StateName}
use Rattle.pawn_tree.specs.declared.declaration.HeadName.{HeadName}
use Rattle.pawn_tree.specs.declared.declaration.HeadName.TheVariants as called
use Rattle.pawn_tree.specs.Declarations.{FunctionOf, Variables, Constant, Enum, Native, Forward}
use Rattle.pawn_tree.specs.Declarations.{Function, Tree}
use Rattle.types_rules.specs.Clauses.{clause}
use Rattle.types_rules.specs.Keys.{Key, entry_name, key_of, same_key}

-- a body as it is written
pub record Written : Type 0 where
  pub at : At
  pub function : FunctionOf

-- a function with its bodies, in token order
pub record Group : Type 0 where
  pub key : Key
  pub bodies : List Written

-- the bodies of a source
abbrev pub written : Tree → List Written
written [] = []
written (Variables at it ∷ more) = written more
written (Constant at it ∷ more) = written more
written (Enum at name items ∷ more) = written more
written (Native at head ∷ more) = written more
written (Forward at is_public head ∷ more) = written more
written (Function at it ∷ more) = record { at = at; function = it } ∷ written more

-- ---- the fallback of entry functions

-- the name of an entry function
abbrev pub is_entry : HeadName → Bool
is_entry (called.Name name) = bytes_eq name.bytes entry_name
is_entry (called.Operator at sign) = false

-- with the automaton that a classifier names, unless it is there
abbrev pub with_automaton : List (List ℕ) → Option (List StateName) → List (List ℕ)
with_automaton names None = names
with_automaton names (Some []) = names
with_automaton names (Some (it ∷ more)) = with_name names (clause (it ∷ more)).automaton

-- with the automaton of a body, if that is an entry function's
abbrev pub with_entry : List (List ℕ) → Written → List (List ℕ)
with_entry names it =
    if is_entry it.function.head.name then with_automaton names it.function.states else names

-- the automata that bodies named `entry` name
abbrev pub entry_automata : List (List ℕ) → List Written → List (List ℕ)
entry_automata names [] = names
entry_automata names (it ∷ more) =
    entry_automata (with_entry names it) more

-- the one that they name, or the anonymous one where they name none or several
abbrev pub only_one : List (List ℕ) → List ℕ
only_one [] = []
only_one (name ∷ []) = name
only_one (name ∷ second ∷ more) = []

-- the automaton of an entry function whose classifier names none
abbrev pub entry_fallback : Tree → List ℕ
entry_fallback tree = only_one (entry_automata [] (written tree))

-- ---- groups

-- one more body, with its key
abbrev pub with_body : List Group → Key → Written → List Group
with_body [] key it = record { key = key; bodies = it ∷ [] } ∷ []
with_body (group ∷ more) key it =
    if same_key group.key key then record group { bodies = group.bodies ++ it ∷ [] } ∷ more
    else group ∷ with_body more key it

module _ (names : List (List ℕ)) (fallback : List ℕ) where
  -- which function it is of, by its head and the classifier behind that
  abbrev pub body_key : Written → Key
  body_key it = key_of names fallback it.function.head it.function.states

  -- further bodies, each put to its function
  unfoldable pub grouped : List Group → List Written → List Group
  grouped groups [] = groups
  grouped groups (it ∷ more) = grouped (with_body groups (body_key it) it) more

-- the functions of a source, with the names of its tags
abbrev pub groups : List (List ℕ) → Tree → List Group
groups names tree = grouped names (entry_fallback tree) [] (written tree)

-- the number of the function with a key
abbrev pub number_of : List Group → Key → Option ℕ
number_of all key = position (λ (group : Group). same_key group.key key) all
