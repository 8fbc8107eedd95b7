-- Heads that differ from the first one of their function, by their places.
use Rattle.std.specs.Prelude.{◌≡◌, ◌<◌, ℕ, List, [], flat_map, slice_get, Bool, true, false, nat_eq}
use Rattle.std.specs.Prelude.{if◌then◌else◌, position, option_map, Option, None, Some, Result, Ok}
use Rattle.std.specs.Prelude.{Err}
use Rattle.names_rules.specs.Verdict.{Fault}
use Rattle.pawn_verdict.specs.Answers.{Fails}
use Rattle.pawn_verdict.specs.declared.fault.CheckFault.{CheckFault}
use Rattle.types_rules.specs.Around.{Head}
use Rattle.types_rules.specs.Keys.{Key}
use Rattle.types_rules.specs.Groups.{Group, number_of}
use Rattle.types_rules.specs.Headings.{Heading, belongs, is_enters}
use Rattle.types_rules.specs.Sources.{Source, Stated}
use Rattle.types_rules.specs.Functions.{differs, differing, head_faults, heads_of_group}
use Rattle.check_functions.specs.Own.{enters_all, own_key}
use Rattle.check_functions.specs.Stated.{head_at}

-- what stands at a place against what stands at another
abbrev pub differing_by : Source → Option Stated → Option Stated → List Fault
differing_by source (Some first) (Some it) = differing source first it
differing_by source (Some first) None = []
differing_by source None it = []

-- by places
abbrev pub differing_at : Source → List Stated → ℕ → ℕ → List Fault
differing_at source all first i = differing_by source (slice_get all first) (slice_get all i)

-- of all functions
abbrev pub all_heads : Source → List Stated → List Group → List Fault
all_heads source all groups =
    flat_map (λ (group : Group). head_faults source (heads_of_group source all group)) groups

-- ---- as code goes through them

-- a heading with its head, at a place
abbrev pub stated_at : List Heading → List (Option Head) → ℕ → Option Stated
stated_at headings heads place =
    option_map (λ (it : Heading). record { heading = it; head = head_at heads place })
    (slice_get headings place)

-- whether two headings with these heads differ
abbrev pub differs_by : Source → Heading → Option Head → Heading → Option Head → Bool
differs_by source x head y other =
    differs source (record { heading = x; head = head }) head
    (record { heading = y; head = other }) other

-- a heading against the first one of its function, unless it is that
abbrev pub place_faults : Source → List Stated → Option ℕ → ℕ → List Fault
place_faults source all None i = []
place_faults source all (Some first) i =
    if nat_eq first i then [] else differing_at source all first i

-- by the number of the function with a key
abbrev pub number_faults : Source → List Stated → Key → ℕ → Option ℕ → List Fault
number_faults source all key i None = []
number_faults source all key i (Some number) =
    place_faults source all (position (belongs source.tags source.fallback key) source.headings) i

-- a heading that is of this function alone
abbrev pub key_faults : Source → List Stated → ℕ → Option Key → List Fault
key_faults source all i None = []
key_faults source all i (Some key) = number_faults source all key i (number_of source.groups key)

-- a heading against the first one of the function that it is of alone
abbrev pub heading_faults : Source → List Stated → ℕ → Option Heading → List Fault
heading_faults source all i None = []
heading_faults source all i (Some it) =
    key_faults source all i (own_key source.tags source.fallback it)

-- the one at a place
abbrev pub own_faults : Source → List Stated → ℕ → List Fault
own_faults source all i = heading_faults source all i (slice_get source.headings i)

-- a heading against the first one of an entry function, where it is of all of them
abbrev pub group_faults : Source → List Stated → ℕ → Option Group → List Fault
group_faults source all i None = []
group_faults source all i (Some group) =
    if is_enters group.key
    then place_faults source all (position
    (belongs source.tags source.fallback group.key) source.headings) i
    else []

-- by whether it is of all entry functions
abbrev pub forward_faults : Source → List Stated → ℕ → Bool → ℕ → List Fault
forward_faults source all i false number = []
forward_faults source all i true number = group_faults source all i (slice_get source.groups number)

-- the one at a place, and all entry functions
abbrev pub enters_at : Option Heading → Bool
enters_at None = false
enters_at (Some it) = enters_all it

-- the heading at a place against the first one of the entry function with a number
abbrev pub entry_faults : Source → List Stated → ℕ → ℕ → List Fault
entry_faults source all i number =
    forward_faults source all i (enters_at (slice_get source.headings i)) number

-- ---- what is told of each number below another

-- none of each, or one of some
abbrev pub EachTold : (ℕ → List Fault) → ℕ → Result (Unit {0}) CheckFault → Type 0
EachTold faults count (Ok done) = (i : ℕ) → i < count → faults i ≡ []
EachTold faults count (Err fault) = (i : ℕ) × (i < count) × Fails (faults i) fault

-- the answer is told of each
pub record EachOf (faults : ℕ → List Fault) (count : ℕ)
    (result : Result (Unit {0}) CheckFault) : Type 0 where
  pub told : EachTold faults count result

-- and of each pair
abbrev pub PairTold : (ℕ → ℕ → List Fault) → ℕ → ℕ → Result (Unit {0}) CheckFault → Type 0
PairTold faults count size (Ok done) = (i j : ℕ) → i < count → j < size → faults i j ≡ []
PairTold faults count size (Err fault) =
    (i : ℕ) × (j : ℕ) × (i < count) × (j < size) × Fails (faults i j) fault

-- the answer is told of each pair
pub record PairsOf (faults : ℕ → ℕ → List Fault) (count size : ℕ)
    (result : Result (Unit {0}) CheckFault) : Type 0 where
  pub told : PairTold faults count size result
