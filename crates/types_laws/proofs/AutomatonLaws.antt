-- Each classifier's automaton is known, with a state where it names one.
use Rattle.std.proofs.Common.{◌≡◌, ◌≤◌, ℕ, List, [], ◌∷◌, ◌++◌, Bool, true, false, Option, None}
use Rattle.std.proofs.Common.{Some, refl, sym, ap, ◌∙◌, subst, cond, arith}
use Rattle.std.specs.Prelude.{if◌then◌else◌, length, find}
use Rattle.std.specs.Str.{bytes_eq}
use Rattle.std.proofs.lemmas.List.{length-append}
use Rattle.std.proofs.lemmas.Slice.Eq.{bytes_eq-Decides}
use Rattle.pawn_base.specs.Among.{is_among}
use Rattle.pawn_tree.specs.declared.name.StateName.{StateName}
use Rattle.pawn_meaning.specs.Program.{Automaton}
use Rattle.types_rules.specs.Clauses.{Item, items, items_behind, named_or}
use Rattle.types_rules.specs.Keys.{Key, Enters}
use Rattle.types_rules.specs.Groups.{Written, Group, number_of, body_key}
use Rattle.types_rules.specs.Automata.{with_state, with_item, with_items, has_other}
use Rattle.types_rules.specs.Automata.{with_fallback, with_classifier, classified, entered}
use Rattle.types_rules.specs.Automata.{automata}
use Rattle.types_laws.specs.Objects.{Each}

-- ---- names among automata

abbrev pub is_named : List ℕ → Automaton → Bool
is_named name it = bytes_eq it.name name

-- an automaton with this name, and with so many states
pub record Has (all : List Automaton) (name : List ℕ) (least : ℕ) : Type 0 where
  pub it : Automaton
  pub found : find (is_named name) all ≡ Some it
  pub enough : least ≤ length it.states

same_name : (name : List ℕ) → bytes_eq name name ≡ true
same_name name = (bytes_eq-Decides name name).1 refl

longer_by : (states : List (List ℕ)) (state : List ℕ) (b : Bool) → is_among state states ≡ b
    → length states ≤ length (if b then states else states ++ state ∷ [])
longer_by states state true e = omega arith
longer_by states state false e = omega (arith, length-append states (state ∷ []))

some_by : (states : List (List ℕ)) (state : List ℕ) (b : Bool) → is_among state states ≡ b
    → 1 ≤ length (if b then states else states ++ state ∷ [])
some_by [] state true e = absurd (let no : ⊥ = cc in no)
some_by (x ∷ xs) state true e = omega arith
some_by states state false e = omega (arith, length-append states (state ∷ []))

kept_states : (states : List (List ℕ)) (state : Option (List ℕ))
    → length states ≤ length (with_state states state)
kept_states states None = omega arith
kept_states states (Some state) = longer_by states state (is_among state states) refl

abbrev least_of : Option (List ℕ) → ℕ
least_of None = 0
least_of (Some state) = 1

own_states : (states : List (List ℕ)) (state : Option (List ℕ))
    → least_of state ≤ length (with_state states state)
own_states states None = omega arith
own_states states (Some state) = some_by states state (is_among state states) refl

-- ---- one more name

abbrev joined : Bool → Automaton → List Automaton → List ℕ → Option (List ℕ) → List Automaton
joined b x more name state =
    if b then record x { states = with_state x.states state } ∷ more
    else x ∷ with_item more name state

has_first : (x : Automaton) (more : List Automaton) (name : List ℕ) (least : ℕ)
    → is_named name x ≡ true → least ≤ length x.states → Has (x ∷ more) name least
has_first x more name least e h = record { it = x; found = rw e refl; enough = h }

has_later : (x : Automaton) (more : List Automaton) (name : List ℕ) (least : ℕ)
    → is_named name x ≡ false → Has more name least → Has (x ∷ more) name least
has_later x more name least e h = record { it = h.it; found = rw e h.found; enough = h.enough }

own_by : (x : Automaton) (more : List Automaton) (name : List ℕ) (state : Option (List ℕ))
    (b : Bool)
    → is_named name x ≡ b → Has (with_item more name state) name (least_of state)
    → Has (joined b x more name state) name (least_of state)
own_by x more name state true e ih =
    has_first (record x { states = with_state x.states state }) more name (least_of state) e
    (own_states x.states state)
own_by x more name state false e ih =
    has_later x (with_item more name state) name (least_of state) e ih

own_item : (all : List Automaton) (name : List ℕ) (state : Option (List ℕ))
    → Has (with_item all name state) name (least_of state)
own_item [] name state = has_first _ [] name (least_of state) (same_name name) (own_states [] state)
own_item (x ∷ more) name state =
    own_by x more name state (is_named name x) refl (own_item more name state)

first_has : (x : Automaton) (more : List Automaton) (name : List ℕ) (least : ℕ)
    → is_named name x ≡ true → Has (x ∷ more) name least → least ≤ length x.states
first_has x more name least e h =
    let same : x ≡ h.it = by h.it (find (is_named name) (x ∷ more)) refl h.found in
    subst (λ (z : Automaton). least ≤ length z.states) (sym same) h.enough
  where
    some_same : (y : Automaton) → Some x ≡ Some y → x ≡ y
    some_same y e = cc

    by : (y : Automaton) (o : Option Automaton) → find (is_named name) (x ∷ more) ≡ o → o ≡ Some y
        → x ≡ y
    by y o d g =
        some_same y (ap (λ b. cond b (Some x) (find (is_named name) more)) (sym e) ∙ d ∙ g)

later_has : (x : Automaton) (more : List Automaton) (name : List ℕ) (least : ℕ)
    → is_named name x ≡ false → Has (x ∷ more) name least → Has more name least
later_has x more name least e h = record {
  it = h.it;
  found = ap (λ b. cond b (Some x) (find (is_named name) more)) (sym e) ∙ h.found;
  enough = h.enough;
}

kept_by : (x : Automaton) (more : List Automaton) (name : List ℕ) (state : Option (List ℕ))
    (other : List ℕ) (least : ℕ) (b c : Bool) → is_named other x ≡ c → Has (x ∷ more) other least
    → (Has more other least → Has (with_item more name state) other least)
    → Has (joined b x more name state) other least
kept_by x more name state other least true true e h ih =
    has_first (record x { states = with_state x.states state }) more other least e
    (let a = first_has x more other least e h in
    let b = kept_states x.states state in omega (arith, a, b))
kept_by x more name state other least true false e h ih =
    has_later (record x { states = with_state x.states state }) more other least e
    (later_has x more other least e h)
kept_by x more name state other least false true e h ih =
    has_first x (with_item more name state) other least e (first_has x more other least e h)
kept_by x more name state other least false false e h ih =
    has_later x (with_item more name state) other least e (ih (later_has x more other least e h))

kept_item : (all : List Automaton) (name : List ℕ) (state : Option (List ℕ)) (other : List ℕ)
    (least : ℕ) → Has all other least → Has (with_item all name state) other least
kept_item [] name state other least h = absurd (let no : ⊥ = none h in no)
  where
    none : Has [] other least → ⊥
    none h = let e = h.found in cc
kept_item (x ∷ more) name state other least h =
    kept_by x more name state other least (is_named name x) (is_named other x) refl h
    (kept_item more name state other least)

kept_items : (all : List Automaton) (its : List Item) (other : List ℕ) (least : ℕ)
    → Has all other least → Has (with_items all its) other least
kept_items all [] other least h = h
kept_items all (it ∷ more) other least h =
    kept_items (with_item all it.automaton (Some it.state)) more other least
    (kept_item all it.automaton (Some it.state) other least h)

-- ---- all classifiers

module _ (names : List (List ℕ)) (fallback : List ℕ) (groups : List Group) where
  -- what a body asks of the automata
  abbrev pub Serves : List Automaton → Key → Option (List StateName) → Type 0
  Serves all key None = Unit {0}
  Serves all key (Some []) = has_other names fallback groups key ≡ false → Has all [] 0
  Serves all key (Some (state ∷ more)) = Has all (named_or [] state.automaton) 1

  abbrev pub ServesBody : List Automaton → Written → Type 0
  ServesBody all it = Serves all (body_key names fallback it) it.function.states

  fallback_kept : (all : List Automaton) (it : Written) (other : List ℕ) (least : ℕ)
      → Has all other least → Has (with_fallback names fallback groups all it) other least
  fallback_kept all it other least h =
      by (has_other names fallback groups (body_key names fallback it))
    where
      by : (b : Bool) → Has (if b then all else with_item all [] None) other least
      by true = h
      by false = kept_item all [] None other least h

  classifier_kept : (all : List Automaton) (it : Written) (states : Option (List StateName))
      (other : List ℕ) (least : ℕ) → Has all other least
      → Has (with_classifier names fallback groups all it states) other least
  classifier_kept all it None other least h = h
  classifier_kept all it (Some []) other least h = fallback_kept all it other least h
  classifier_kept all it (Some (state ∷ more)) other least h =
      kept_items all (items (state ∷ more)) other least h

  own_classifier : (all : List Automaton) (it : Written) (states : Option (List StateName))
      → Serves (with_classifier names fallback groups all it states) (body_key names fallback it)
      states
  own_classifier all it None = tt
  own_classifier all it (Some []) =
      λ e. by (has_other names fallback groups (body_key names fallback it)) e
    where
      by : (b : Bool) → b ≡ false → Has (if b then all else with_item all [] None) [] 0
      by true e = absurd (let no : ⊥ = cc in no)
      by false e = own_item all [] None
  own_classifier all it (Some (state ∷ more)) =
      kept_items (with_item all (named_or [] state.automaton) (Some state.state.bytes))
      (items_behind (named_or [] state.automaton) more) (named_or [] state.automaton) 1
      (own_item all (named_or [] state.automaton) (Some state.state.bytes))

  serves_kept : (all : List Automaton) (it : Written) (key : Key) (states : Option (List StateName))
      → Serves all key states
      → Serves (with_classifier names fallback groups all it it.function.states) key states
  serves_kept all it key None h = tt
  serves_kept all it key (Some []) h =
      λ e. classifier_kept all it it.function.states [] 0 (h e)
  serves_kept all it key (Some (state ∷ more)) h =
      classifier_kept all it it.function.states (named_or [] state.automaton) 1 h

  all_kept : (all : List Automaton) (key : Key) (states : Option (List StateName))
      (bodies : List Written) → Serves all key states
      → Serves (classified names fallback groups all bodies) key states
  unfolding classified
  all_kept all key states [] h = h
  all_kept all key states (it ∷ more) h =
      all_kept (with_classifier names fallback groups all it it.function.states) key states more
      (serves_kept all it key states h)

  all_serve : (all : List Automaton) (bodies : List Written)
      → Each (ServesBody (classified names fallback groups all bodies)) bodies
  unfolding classified
  all_serve all [] = tt
  all_serve all (it ∷ more) = (
    all_kept (with_classifier names fallback groups all it it.function.states)
        (body_key names fallback it) it.function.states more
        (own_classifier all it it.function.states),
    all_serve (with_classifier names fallback groups all it it.function.states) more,
  )

  -- entry functions change no name and no state
  entered_by : (of : List Group) (x : Automaton) (more : List Automaton) (name : List ℕ) (least : ℕ)
      (b : Bool) → is_named name x ≡ b → Has (x ∷ more) name least
      → (Has more name least → Has (entered of more) name least)
      → Has (record x { enter = number_of of (Enters x.name) } ∷ entered of more) name least
  entered_by of x more name least true e h ih =
      has_first (record x { enter = number_of of (Enters x.name) }) (entered of more) name least e
      (first_has x more name least e h)
  entered_by of x more name least false e h ih =
      has_later (record x { enter = number_of of (Enters x.name) }) (entered of more) name least e
      (ih (later_has x more name least e h))

  pub entered_has : (of : List Group) (all : List Automaton) (name : List ℕ) (least : ℕ)
      → Has all name least → Has (entered of all) name least
  unfolding entered
  entered_has of [] name least h = h
  entered_has of (x ∷ more) name least h =
      entered_by of x more name least (is_named name x) refl h (entered_has of more name least)

  served : (of : List Group) (all : List Automaton) (key : Key) (states : Option (List StateName))
      → Serves all key states → Serves (entered of all) key states
  served of all key None h = tt
  served of all key (Some []) h = λ e. entered_has of all [] 0 (h e)
  served of all key (Some (state ∷ more)) h =
      entered_has of all (named_or [] state.automaton) 1 h

  each_served : (of : List Group) (all : List Automaton) (bodies : List Written)
      → Each (ServesBody all) bodies → Each (ServesBody (entered of all)) bodies
  each_served of all [] h = tt
  each_served of all (it ∷ more) h = (
    served of all (body_key names fallback it) it.function.states h.0,
    each_served of all more h.1,
  )

  -- the automata of bodies serve each of them
  pub automata_serve : (bodies : List Written)
      → Each (ServesBody (automata names fallback groups bodies)) bodies
  automata_serve bodies =
      each_served groups (classified names fallback groups [] bodies) bodies (all_serve [] bodies)
