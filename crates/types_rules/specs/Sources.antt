-- What is known of a whole source before any body is looked at: the names of its tags, its
-- functions, the natives that are called, its automata, and what the names of functions mean,
-- which are known everywhere.
use Rattle.std.specs.Prelude.{ℕ, suc, ◌+◌, List, [], ◌∷◌, ◌++◌, Bool, true, false, if◌then◌else◌}
use Rattle.std.specs.Prelude.{Option, None, Some, filter, find, unwrap_or, option_map, flat_map}
use Rattle.std.specs.Option.{option_and_then}
use Rattle.pawn_base.specs.Among.{is_among}
use Rattle.pawn_tree.specs.declared.declaration.HeadName.{HeadName}
use Rattle.pawn_tree.specs.declared.declaration.HeadName.TheVariants as called
use Rattle.pawn_tree.specs.Declarations.{Tree}
use Rattle.pawn_tree.specs.Declarations as tree
use Rattle.pawn_tags.specs.Overloads.{Overloads}
use Rattle.pawn_tags.specs.Tags.{untagged}
use Rattle.pawn_meaning.specs.Program.{Automaton}
use Rattle.names_rules.specs.TreeMarks.{tree_marks}
use Rattle.names_rules.specs.Around.{tags_of}
use Rattle.names_rules.specs.Overloads.{tag_number}
use Rattle.types_rules.specs.Around.{Around, Callable, Head}
use Rattle.types_rules.specs.Scope.{Meaning, Function, Native, Entering, Taken, Entry}
use Rattle.types_rules.specs.CalledIn.{called_in}
use Rattle.types_rules.specs.Points.{Point}
use Rattle.types_rules.specs.Keys.{Key, Named, Operates, Enters, Misshapen, entry_name}
use Rattle.types_rules.specs.Groups.{Written, Group, written, groups, entry_fallback}
use Rattle.types_rules.specs.Automata.{automata}
use Rattle.types_rules.specs.Headings.{Heading, Role, IsNative, IsForward}
use Rattle.types_rules.specs.Headings.{IsBody, headings, belongs}
use Rattle.types_rules.specs.Headings.{is_enters}
use Rattle.types_rules.specs.Paths.{heads}

-- what is known of a source apart from its heads
pub record Source : Type 0 where
  pub tags : List (List ℕ)
  -- the automaton of an entry function's fallback
  pub fallback : List ℕ
  pub groups : List Group
  pub headings : List Heading
  pub automata : List Automaton
  -- the names that are called in some body
  pub called : List (List ℕ)

-- a head with its typed form, where it has one
pub record Stated : Type 0 where
  pub heading : Heading
  pub head : Option Head

-- what is known of a tree
abbrev pub source_of : Tree → Source
source_of tree =
    let names : List (List ℕ) = tags_of (tree_marks tree) in
    let all : List Group = groups names tree in
    record {
      tags = names;
      fallback = entry_fallback tree;
      groups = all;
      headings = headings tree;
      automata = automata names (entry_fallback tree) all (written tree);
      called = flat_map (λ (it : Written). called_in it.function.body) (written tree);
    }

-- ---- natives

-- whether a heading is a native's
abbrev pub is_native : Role → Bool
is_native IsNative = true
is_native IsForward = false
is_native IsBody = false

-- the bytes of a name; an operator has none
abbrev pub name_of : HeadName → List ℕ
name_of (called.Name name) = name.bytes
name_of (called.Operator at sign) = []

module _ (source : Source) where
  -- whether some body calls a name
  abbrev pub is_called : Heading → Bool
  is_called it = is_among (name_of it.head.name) source.called

  -- the tag of what a head gives
  abbrev pub tag_of_head : tree.Head → ℕ
  tag_of_head head = tag_number source.tags head.tag

  -- ---- what can be called

  -- headings, each with its head, where there is one
  abbrev pub stated : List Heading → List (Option Head) → List Stated
  stated [] heads = []
  stated (it ∷ more) [] = record { heading = it; head = None } ∷ stated more []
  stated (it ∷ more) (head ∷ heads) = record { heading = it; head = head } ∷ stated more heads

  -- the first head of a function, which its calls see
  abbrev pub first_head : List Stated → Key → Option Stated
  first_head all key =
      find (λ (it : Stated). belongs source.tags source.fallback key it.heading) all

  -- the tag of what it gives
  abbrev pub stated_tag : Stated → ℕ
  stated_tag it = tag_of_head it.heading.head

  -- the tag of what a function gives, by its first head
  abbrev pub group_tag : List Stated → Group → ℕ
  group_tag all group = unwrap_or (option_map stated_tag (first_head all group.key)) untagged

  -- the head of a function that its calls see
  abbrev pub group_head : List Stated → Group → Option Head
  group_head all group = option_and_then (λ (it : Stated). it.head) (first_head all group.key)

  -- functions, numbered from a first one on
  unfoldable pub functions_from : ℕ → List Stated → List Group → List Callable
  functions_from number all [] = []
  functions_from number all (group ∷ more) =
      record { number = number; tag = group_tag all group; head = group_head all group }
      ∷ functions_from (number + 1) all more

  -- natives, each with its number among those that are called
  unfoldable pub natives_from : ℕ → List Stated → List Callable
  natives_from number [] = []
  natives_from number (it ∷ more) =
      record { number = number; tag = stated_tag it; head = it.head }
      ∷ natives_from (if is_called it.heading then suc number else number) more

  -- the natives among headings
  abbrev pub natives_in : List Stated → List Stated
  natives_in all = filter (λ (it : Stated). is_native it.heading.role) all

  -- ---- user operators

  -- a function with a number as a user operator, where it is one
  abbrev pub operator_of : ℕ → Key → Overloads
  operator_of number (Operates it) = (it, number) ∷ []
  operator_of number (Named name) = []
  operator_of number (Enters name) = []
  operator_of number Misshapen = []

  -- user operators among functions, numbered from a first one on
  unfoldable pub operators_from : ℕ → List Group → Overloads
  operators_from number [] = []
  operators_from number (group ∷ more) =
      operator_of number group.key ++ operators_from (number + 1) more

  -- ---- all of it

  -- what is known around each expression, with these heads
  abbrev pub around_with : List Stated → Around
  around_with all = record {
    tags = source.tags;
    operators = operators_from 0 source.groups;
    functions = functions_from 0 all source.groups;
    natives = natives_from 0 (natives_in all);
  }

  -- before heads are known
  abbrev pub without_heads : Around
  without_heads = around_with (stated source.headings [])

  -- ---- the names that are known everywhere

  -- a name with what it means
  abbrev pub entry_for : List ℕ → Meaning → List Entry
  entry_for name means = record { name = name; means = means } ∷ []

  -- the name of a function; an operator has none, and entry functions have one together
  abbrev pub function_entry : ℕ → ℕ → Key → List Entry
  function_entry number tag (Named name) = entry_for name (Function number tag)
  function_entry number tag (Operates it) = []
  function_entry number tag (Enters name) = []
  function_entry number tag Misshapen = []

  -- the names of functions, numbered from a first one on
  unfoldable pub function_entries : ℕ → List Stated → List Group → List Entry
  function_entries number all [] = []
  function_entries number all (group ∷ more) =
      function_entry number (group_tag all group) group.key
      ++ function_entries (number + 1) all more

  -- the tag of the first entry function, where there is one
  abbrev pub entering_tag : List Stated → Option ℕ
  entering_tag all =
      option_map (group_tag all) (find (λ (group : Group). is_enters group.key) source.groups)

  -- the name `entry` by the tag of the function that it means
  abbrev pub entry_by : Option ℕ → List Entry
  entry_by None = []
  entry_by (Some tag) = entry_for entry_name (Entering tag)

  -- the names of natives, numbered from a first one on
  unfoldable pub native_entries : ℕ → List Stated → List Entry
  native_entries number [] = []
  native_entries number (it ∷ more) =
      entry_for (name_of it.heading.head.name) (Native number (stated_tag it))
      ++ native_entries (number + 1) more

  -- a forward alone takes its name
  abbrev pub forward_entry : Heading → Role → List Entry
  forward_entry it IsNative = []
  forward_entry it IsForward = entry_for (name_of it.head.name) Taken
  forward_entry it IsBody = []

  -- the names that forwards take
  abbrev pub forward_entries : List Entry
  forward_entries = flat_map (λ (it : Heading). forward_entry it it.role) source.headings

  -- the beginning of the file: forwards stand before functions, whose names they share
  abbrev pub beginning : Point
  beginning =
      let all : List Stated = stated source.headings [] in
      record {
        scope =
            (forward_entries
            ++ (native_entries 0 (natives_in all)
            ++ (function_entries 0 all source.groups ++ entry_by (entering_tag all)))) ∷ [];
        objects = 0;
        slots = 0;
      }

  -- with the heads of a tree, each by the path where it stands
  abbrev pub all_stated : Tree → List Stated
  all_stated tree = stated source.headings (heads without_heads beginning tree)

  -- what is known around each expression of a tree
  abbrev pub around_of : Tree → Around
  around_of tree = around_with (all_stated tree)
