-- Automata by their names, and a state more of one.
use Rattle.std.proofs.Common.{◌≡◌, ℕ, zero, suc, Bool, List, [], ◌∷◌, ◌++◌, false, if◌then◌else◌}
use Rattle.std.proofs.Common.{map, get_or, set, position, Option, Some, None, refl, sym, ap, ◌∙◌}
use Rattle.std.specs.Cmp.Lexicographic.{nat_list_eq_equiv}
use Rattle.std.specs.Str.{bytes_eq}
use Rattle.std.proofs.lemmas.List.{map-append}
use Rattle.pawn_base.specs.Among.{is_among, with_name}
use Rattle.pawn_meaning.specs.Program.{Automaton}
use Rattle.types_rules.specs.States.{automaton_named}
use Rattle.types_rules.specs.Automata.{with_item, with_state}
use Rattle.check_source.specs.declared.automata.KnownAutomaton.{KnownAutomaton}
use Rattle.check_source.specs.AutomataView.{known_view, automata_view, known_with, known_entered}
use Rattle.check_source.specs.Update.{updated, with_first}
use Rattle.check_source.proofs.PlaceLaws.{place_is, place_map, same_places, none_passes}
use Rattle.check_source.proofs.PlaceLaws.{first_new, first_at, map_updated, set_updates}

turned : (x y : List ℕ) → bytes_eq x y ≡ bytes_eq y x
turned x y = nat_list_eq_equiv.symm x y

abbrev pub name_of : KnownAutomaton → List ℕ
name_of it = it.name

abbrev is_named : List ℕ → Automaton → Bool
is_named name it = bytes_eq it.name name

pub numbered : (items : List KnownAutomaton) (name : List ℕ)
    → position (bytes_eq name) (map name_of items) ≡ automaton_named (automata_view items) name
numbered items name =
    place_is (bytes_eq name) (map name_of items)
    ∙ place_map name_of (bytes_eq name) items
    ∙ same_places (λ (it : KnownAutomaton). bytes_eq name it.name)
    (λ (it : KnownAutomaton). bytes_eq it.name name) items (λ it. turned name it.name)
    ∙ sym (place_map known_view (is_named name) items)
    ∙ sym (place_is (is_named name) (automata_view items))

-- a name that has no number isn't there
pub unnamed : (items all : List KnownAutomaton) (names : List (List ℕ)) (name : List ℕ)
    → names ≡ map name_of items → items ≡ all
    → automaton_named (automata_view all) name ≡ None → is_among name names ≡ false
unnamed items all names name n v h =
    none_passes (bytes_eq name) names
    (sym (place_is (bytes_eq name) names) ∙ ap (position (bytes_eq name)) n ∙ numbered items name
    ∙ ap (λ (its : List KnownAutomaton). automaton_named (automata_view its) name) v ∙ h)

-- ---- a state more

abbrev with_the : Option (List ℕ) → Automaton → Automaton
with_the state it = record it { states = with_state it.states state }

abbrev new_item : List ℕ → Option (List ℕ) → Automaton
new_item name state = record { name = name; states = with_state [] state; enter = None }

first_item : (all : List Automaton) (name : List ℕ) (state : Option (List ℕ))
    → with_item all name state ≡ with_first (is_named name) (with_the state)
    (new_item name state) all
first_item [] name state = refl
first_item (it ∷ more) name state =
    ap (λ (rest : List Automaton). if bytes_eq it.name name then with_the state it ∷ more
    else it ∷ rest) (first_item more name state)

updated_same : (all : List Automaton) (i : ℕ) → updated all i (with_the None) ≡ all
updated_same [] i = refl
updated_same (it ∷ all) zero = refl
updated_same (it ∷ all) (suc i) = ap (λ (rest : List Automaton). it ∷ rest) (updated_same all i)

at_place : (all : List Automaton) (name : List ℕ) (state : Option (List ℕ)) (i : ℕ)
    → automaton_named all name ≡ Some i
    → with_item all name state ≡ updated all i (with_the state)
at_place all name state i h =
    first_item all name state
    ∙ first_at (is_named name) (with_the state) (new_item name state) all i
    (sym (place_is (is_named name) all) ∙ h)

pub item_new : (all : List KnownAutomaton) (name : List ℕ) (state : Option (List ℕ))
    (now : List KnownAutomaton) → automaton_named (automata_view all) name ≡ None
    → now ≡ all ++ record { name = name; states = with_state [] state; enter = None } ∷ []
    → automata_view now ≡ with_item (automata_view all) name state
item_new all name state now h e =
    ap automata_view e ∙ map-append known_view all
    (record { name = name; states = with_state [] state; enter = None } ∷ [])
    ∙ sym (first_item (automata_view all) name state
    ∙ first_new (is_named name) (with_the state) (new_item name state) (automata_view all)
    (sym (place_is (is_named name) (automata_view all)) ∙ h))

pub item_known : (all : List KnownAutomaton) (name state : List ℕ) (i : ℕ)
    (now : List KnownAutomaton) → automaton_named (automata_view all) name ≡ Some i
    → now ≡ updated all i (known_with state)
    → automata_view now ≡ with_item (automata_view all) name (Some state)
item_known all name state i now h e =
    ap automata_view e ∙ map_updated known_view all i (known_with state) (with_the (Some state))
    (λ x. refl)
    ∙ sym (at_place (automata_view all) name (Some state) i h)

pub item_kept : (all : List KnownAutomaton) (name : List ℕ) (i : ℕ)
    → automaton_named (automata_view all) name ≡ Some i
    → automata_view all ≡ with_item (automata_view all) name None
item_kept all name i h =
    sym (at_place (automata_view all) name None i h ∙ updated_same (automata_view all) i)

-- ---- entry functions

pub enters : (items : List KnownAutomaton) (i : ℕ) (x : KnownAutomaton) (function : Option ℕ)
    → x ≡ get_or items i x
    → set items i (record x { enter = function }) ≡ updated items i (known_entered function)
enters items i x function is =
    set_updates items i x (record x { enter = function }) (known_entered function) is refl

pub gains : (items : List KnownAutomaton) (i : ℕ) (x : KnownAutomaton) (state : List ℕ)
    (states : List (List ℕ)) → x ≡ get_or items i x
    → states ≡ with_name x.states state
    → set items i (record x { states = states }) ≡ updated items i (known_with state)
gains items i x state states is e =
    set_updates items i x (record x { states = states }) (known_with state) is
    (ap (λ (s : List (List ℕ)). record x { states = s }) e)
