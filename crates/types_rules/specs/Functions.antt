-- What the bodies of one function have to keep together (Language Guide, "Functions", "Automata",
-- "State classifiers"), apart from what stands in them: their classifiers, and their heads.
use Rattle.std.specs.Prelude.{ℕ, codes, List, [], ◌∷◌, ◌++◌, filter, filter_map, flat_map, Bool}
use Rattle.std.specs.Prelude.{true, false, not, ◌&&◌, ◌||◌, if◌then◌else◌, is_some, slice_get}
use Rattle.std.specs.Prelude.{Option, None, Some}
use Rattle.std.specs.List.{list_any}
use Rattle.std.specs.Str.{bytes_eq}
use Rattle.pawn_tree.specs.declared.name.At.{At}
use Rattle.pawn_tree.specs.declared.name.StateName.{StateName}
use Rattle.pawn_tree.specs.Declarations as tree
use Rattle.pawn_states.specs.declared.clause.Clause.{Clause}
use Rattle.pawn_states.specs.declared.fault.StateFault.{StateFault}
use Rattle.pawn_states.specs.declared.fault.StateFault.TheVariants.{Twice, FallbackTwice, Mixed}
use Rattle.pawn_states.specs.declared.fault.StateFault.TheVariants.{Memory}
use Rattle.pawn_states.specs.Classifier.{first_fault}
use Rattle.names_rules.specs.Verdict.{Fault}
use Rattle.types_rules.specs.declared.fault.TheConstants.{STATE_TWICE, FALLBACK_TWICE}
use Rattle.types_rules.specs.declared.fault.TheConstants.{MIXED_AUTOMATA, REDEFINED, HEAD_DIFFERS}
use Rattle.types_rules.specs.Around.{Head}
use Rattle.types_rules.specs.SameHeads.{same_head}
use Rattle.types_rules.specs.Clauses.{clause, is_mixed}
use Rattle.types_rules.specs.Keys.{Key, Named}
use Rattle.types_rules.specs.Keys as key
use Rattle.types_rules.specs.Groups.{Written, Group}
use Rattle.types_rules.specs.Headings.{belongs, is_enters}
use Rattle.types_rules.specs.Sources.{Source, Stated, stated_tag}

-- a broken rule, by the token that the function begins with
abbrev pub fault : ℕ → At → Fault
fault kind at = record { kind = kind; place = at.place }

-- a broken rule, where a test says so
abbrev pub fault_if : Bool → ℕ → At → List Fault
fault_if false kind at = []
fault_if true kind at = fault kind at ∷ []

-- ---- classifiers

-- whether a body has a classifier
abbrev pub has_classifier : Written → Bool
has_classifier it = is_some it.function.states

-- a body without a classifier: beside one that has it, of an entry function, or behind another such
abbrev pub bare_faults : Group → List Written → Written → List Fault
bare_faults group before it =
    fault_if (list_any has_classifier group.bodies || is_enters group.key) MIXED_AUTOMATA it.at
    ++ fault_if (list_any (λ other. not (has_classifier other)) before) REDEFINED it.at

-- a body's faults by its classifier
abbrev pub states_faults : Group → List Written → Written → Option (List StateName) → List Fault
states_faults group before it None = bare_faults group before it
states_faults group before it (Some states) = fault_if (is_mixed states) MIXED_AUTOMATA it.at

-- each body with those before it
abbrev pub bodies_faults : Group → List Written → List Written → List Fault
bodies_faults group before [] = []
bodies_faults group before (it ∷ more) =
    states_faults group before it it.function.states ++ bodies_faults group (before ++ it ∷ []) more

-- the clauses of the bodies that have a classifier, each with its body
abbrev pub clause_of : Written → Option Clause
clause_of it = clause_in it.function.states
  where
    clause_in : Option (List StateName) → Option Clause
    clause_in None = None
    clause_in (Some states) = Some (clause states)

-- all clauses of a function, in order
abbrev pub clauses : Group → List Clause
clauses group = filter_map clause_of group.bodies

-- a broken rule at a body
abbrev pub at_body : ℕ → Option Written → List Fault
at_body kind None = []
at_body kind (Some it) = fault kind it.at ∷ []

-- the first fault of clauses, at the body that it names
abbrev pub clause_faults : List Written → Option StateFault → List Fault
clause_faults bodies None = []
clause_faults bodies (Some (Twice i)) = at_body STATE_TWICE (slice_get bodies i)
clause_faults bodies (Some (FallbackTwice i)) = at_body FALLBACK_TWICE (slice_get bodies i)
clause_faults bodies (Some (Mixed i)) = at_body MIXED_AUTOMATA (slice_get bodies i)
clause_faults bodies (Some Memory) = []

-- a classifier that names several automata has no clause to be judged
abbrev pub has_mixed : Group → Bool
has_mixed group = list_any (λ (it : Written). mixes_in it.function.states) group.bodies
  where
    mixes_in : Option (List StateName) → Bool
    mixes_in None = false
    mixes_in (Some states) = is_mixed states

-- the faults among the clauses of a function
abbrev pub clauses_faults : Group → List Fault
clauses_faults group =
    if has_mixed group then []
    else clause_faults (filter has_classifier group.bodies) (first_fault [] (clauses group))

-- all faults of a function's classifiers
abbrev pub classifier_faults : Group → List Fault
classifier_faults group = bodies_faults group [] group.bodies ++ clauses_faults group

-- ---- heads

-- whether there are parameters
abbrev pub has_params : List tree.Param → Bool
has_params [] = false
has_params (param ∷ more) = true

-- the name of the main function
abbrev pub main_name : List ℕ
main_name = codes "main"

-- `main` and entry functions have no parameters
abbrev pub has_no_params : Key → Bool
has_no_params (Named name) = bytes_eq name main_name
has_no_params (key.Operates it) = false
has_no_params (key.Enters name) = true
has_no_params key.Misshapen = false

-- whether a body has parameters that it must not have
abbrev pub breaks_params : Group → Written → Bool
breaks_params group it = has_no_params group.key && has_params it.function.head.params

-- the bodies with parameters that they must not have
abbrev pub param_faults : Group → List Fault
param_faults group =
    flat_map (λ (it : Written). fault_if (breaks_params group it) HEAD_DIFFERS it.at)
    group.bodies

module _ (source : Source) where
  -- a head that doesn't stand isn't compared
  abbrev pub differs : Stated → Option Head → Stated → Option Head → Bool
  differs x None y other = false
  differs x (Some head) y None = false
  differs x (Some head) y (Some other) =
      not (same_head (stated_tag source x) head (stated_tag source y) other)

  -- a head that differs from the first one
  abbrev pub differing : Stated → Stated → List Fault
  differing first it = fault_if (differs first first.head it it.head) HEAD_DIFFERS it.heading.at

  -- heads that differ from the first one
  abbrev pub head_faults : List Stated → List Fault
  head_faults [] = []
  head_faults (first ∷ more) =
      flat_map (λ (it : Stated). differing first it) more

  -- the heads of a function in order
  abbrev pub heads_of_group : List Stated → Group → List Stated
  heads_of_group all group =
      filter (λ (it : Stated). belongs source.tags source.fallback group.key it.heading) all

  -- all faults of a function's bodies together
  abbrev pub group_faults : List Stated → Group → List Fault
  group_faults all group =
      classifier_faults group ++ (param_faults group ++ head_faults (heads_of_group all group))
