-- Each function is routed, and each automaton is valid.
use Rattle.std.proofs.Common.{◌≡◌, ◌⊎◌, inl, inr, ◌+◌, ◌<◌, ◌≤◌, ℕ, zero, suc, ℤ, List, [], ◌∷◌}
use Rattle.std.proofs.Common.{◌++◌, Bool, true, false, Option, None, Some, refl, sym, ap, ◌∙◌}
use Rattle.std.proofs.Common.{subst, arith}
use Rattle.std.specs.Prelude.{if◌then◌else◌, length, map, filter, flat_map, slice_get, position}
use Rattle.std.specs.Prelude.{unwrap_or, IfSome, IfNone, ◌&&◌}
use Rattle.std.specs.Str.{bytes_eq}
use Rattle.std.proofs.lemmas.List.{length-append}
use Rattle.std.proofs.lemmas.List.Quantifiers.{position-Some}
use Rattle.std.proofs.lemmas.Option.{get_or_from_slice_get}
use Rattle.pawn_tree.specs.Declarations as tree
use Rattle.pawn_tree.specs.Declarations.{Tree}
use Rattle.pawn_states.specs.declared.clause.Clause.{Clause}
use Rattle.pawn_states.specs.Classifier.{is_fallback}
use Rattle.pawn_states.specs.Dispatch.{automaton_named, cases_from}
use Rattle.pawn_meaning.specs.Program.{Function, Automaton, Program}
use Rattle.pawn_meaning.specs.Valid.{IsValidRoute, IsValidAutomaton}
use Rattle.pawn_meaning.specs.ValidExprs.{Takes}
use Rattle.names_rules.specs.Verdict.{Stands}
use Rattle.names_rules.specs.Mark.{Mark}
use Rattle.types_rules.specs.Keys.{Key, Named, Operates, Enters, Misshapen, same_key}
use Rattle.types_rules.specs.Groups.{Written, Group, written, with_body, body_key, grouped}
use Rattle.types_rules.specs.Groups.{number_of}
use Rattle.types_rules.specs.Automata.{has_other, entered, classified}
use Rattle.types_rules.specs.Routes.{state_number, number, numbered, route}
use Rattle.types_rules.specs.Sources.{Source, Stated, source_of, group_tag, all_stated, around_of}
use Rattle.types_rules.specs.Sources.{beginning}
use Rattle.types_rules.specs.Functions.{has_params, has_no_params, breaks_params, param_faults}
use Rattle.types_rules.specs.Functions.{classifier_faults, bodies_faults, clauses_faults, clauses}
use Rattle.types_rules.specs.Functions.{fault_if, head_faults, heads_of_group, group_faults}
use Rattle.types_rules.specs.Declarations.{Bodied, Done, declarations}
use Rattle.types_rules.specs.Programs.{bodies_of, params_of, dispatch_by, function_of}
use Rattle.types_rules.specs.Programs.{program_functions, program_of}
use Rattle.types_rules.specs.declared.fault.TheConstants.{HEAD_DIFFERS}
use Rattle.types_laws.specs.Objects.{Each}
use Rattle.types_laws.proofs.Facts.{each_all, position_within}
use Rattle.types_laws.proofs.ArrayValues.{each_at}
use Rattle.types_laws.specs.HeadedFunctions.{KeepTogether}
use Rattle.types_laws.proofs.FirstHeads.{append_none}
use Rattle.types_laws.specs.ValidRoutes.{IsRouted, RoutesAreValid}
use Rattle.types_laws.proofs.GroupBodies.{placed_at, bodies_at, Gathers, gathers}
use Rattle.types_laws.proofs.BodyNumbers.{Fits, bodies_fit, fits_shaped, fits_length}
use Rattle.types_laws.proofs.BodyNumbers.{fits_placed}
use Rattle.types_laws.proofs.AutomatonLaws.{Has, ServesBody, automata_serve}
use Rattle.types_laws.proofs.ClauseLaws.{some_same, find_position, each_kept, clauses_count}
use Rattle.types_laws.proofs.ClauseLaws.{NamesOne, NamesNone, names_of, fallback_has}
use Rattle.types_laws.proofs.ClauseLaws.{others_none, LeadsIn, cases_within, alone}

-- ---- lists

pub each_filter : {A : Type 0} (P : A → Type 0) (p : A → Bool) (xs : List A) → Each P xs
    → Each P (filter p xs)
each_filter P p [] h = tt
each_filter P p (x ∷ xs) h =
    each_kept P (p x) x (filter p xs) (λ e. h.0) (each_filter P p xs h.1)

pub each_from : {A : Type 0} (P : A → Type 0) (xs : List A)
    → ((i : ℕ) (x : A) → slice_get xs i ≡ Some x → P x) → Each P xs
each_from P [] h = tt
each_from P (x ∷ xs) h = (h 0 x refl, each_from P xs (λ i y e. h (suc i) y e))

past : {A : Type 0} (xs : List A) (i : ℕ) → i < length xs → slice_get xs i ≡ None → ⊥
past [] i lt e = omega (arith, lt)
past (x ∷ xs) zero lt e = cc
past (x ∷ xs) (suc i) lt e = past xs i (omega (arith, lt)) e

record Found {A : Type 0} (p : A → Bool) (xs : List A) (i : ℕ) : Type 0 where
  pub it : A
  pub there : slice_get xs i ≡ Some it
  pub passes : p it ≡ true

position_found : {A : Type 0} (p : A → Bool) (xs : List A) (i : ℕ) → position p xs ≡ Some i
    → Found p xs i
position_found p xs i e = by (slice_get xs i) refl
  where
    by : (o : Option _) → slice_get xs i ≡ o → Found p xs i
    by None d =
        let lt = position_within p xs i e in
        absurd (past xs i lt d)
    by (Some x) d =
        let h = position-Some p xs i x e in
        record {
          it = x;
          there = d;
          passes = subst (λ z. p z ≡ true) (get_or_from_slice_get xs i x x d) h.1;
        }

-- ---- routes

state_within : (all : Option Automaton) (it : Automaton) (state : List ℕ) → all ≡ Some it
    → 1 ≤ length it.states → state_number all state < length it.states
state_within None it state e h = absurd (let never : ⊥ = cc in never)
state_within (Some x) it state e h =
    let same : x ≡ it = cc in
    by (position (bytes_eq state) x.states) refl
    (subst (λ (z : Automaton). 1 ≤ length z.states) (sym same) h)
    (subst (λ (z : Automaton). length x.states ≡ length z.states) same refl)
  where
    by : (o : Option ℕ) → position (bytes_eq state) x.states ≡ o → 1 ≤ length x.states
        → length x.states ≡ length it.states → unwrap_or o 0 < length it.states
    by None d h k = omega (arith, h, k)
    by (Some i) d h k = omega (arith, position_within (bytes_eq state) x.states i d, k)

module _ (all : List Automaton) where
  -- an automaton's number leads to it
  number_there : (name : List ℕ) (least : ℕ) (h : Has all name least)
      → slice_get all (number all name) ≡ Some h.it
  number_there name least h =
      find_position (λ (a : Automaton). bytes_eq a.name name) all h.it h.found

  states_in : (name : List ℕ) (h : Has all name 1) (cases : List (List ℕ × ℕ))
      → Each (λ (case : ℕ × ℕ). case.0 < length h.it.states) (numbered all name cases)
  states_in name h [] = tt
  states_in name h (case ∷ more) = (
    state_within (slice_get all (number all name)) h.it case.0 (number_there name 1 h) h.enough,
    states_in name h more,
  )

  bodies_in : (name : List ℕ) (n m : ℕ) (cases : List (List ℕ × ℕ)) → n ≤ m → Each (LeadsIn n) cases
      → Each (λ (case : ℕ × ℕ). case.1 < m) (numbered all name cases)
  bodies_in name n m [] le h = tt
  bodies_in name n m (case ∷ more) le h = (omega (arith, le, h.0), bodies_in name n m more le h.1)

  fallback_in : (cs : List Clause) (m : ℕ) (o : Option ℕ) → position is_fallback cs ≡ o
      → length cs ≤ m → IfSome o (λ body. body < m)
  fallback_in cs m None e le = tt
  fallback_in cs m (Some i) e le = omega (arith, le, position_within is_fallback cs i e)

  -- the route of clauses whose automaton is known: it has a state, or there are no cases
  valid_route : (program : Program) → program.automata ≡ all → (cs : List Clause) (m : ℕ)
      → length cs ≤ m → (name : List ℕ) → unwrap_or (automaton_named cs) [] ≡ name
      → (least : ℕ) (h : Has all name least)
      → ((cases_from 0 cs ≡ []) ⊎ (least ≡ 1)) → IsValidRoute program m (route all cs)
  valid_route program same cs m le name is least h either =
      subst (λ (n : List ℕ). IsValidRoute program m (record {
        automaton = number all n;
        cases = numbered all n (cases_from 0 cs);
        fallback = position is_fallback cs;
      })) (sym is) (record {
        automaton = h.it;
        there = ap (λ (l : List Automaton). slice_get l (number all name)) same
            ∙ number_there name least h;
        states = each_all _ (numbered all name (cases_from 0 cs)) (states either);
        bodies_in = each_all _ (numbered all name (cases_from 0 cs))
            (bodies_in name (0 + length cs) m (cases_from 0 cs) (omega (arith, le))
            (cases_within 0 cs));
        fallback = fallback_in cs m (position is_fallback cs) refl le;
      })
    where
      states : ((cases_from 0 cs ≡ []) ⊎ (least ≡ 1))
          → Each (λ (case : ℕ × ℕ). case.0 < length h.it.states)
          (numbered all name (cases_from 0 cs))
      states (inl none) =
          subst (λ (l : List (List ℕ × ℕ)). Each (λ (case : ℕ × ℕ). case.0 < length h.it.states)
          (numbered all name l)) (sym none) tt
      states (inr one) =
          states_in name (record {
            it = h.it;
            found = h.found;
            enough = subst (λ (n : ℕ). n ≤ length h.it.states) one h.enough;
          }) (cases_from 0 cs)

-- ---- what is known of a source

-- functions have bodies
abbrev pub HaveBodies : List Group → Type 0
HaveBodies groups = Each (λ (group : Group). 1 ≤ length group.bodies) groups

have_by : (group : Group) (more : List Group) (key : Key) (it : Written) (b : Bool)
    → HaveBodies (group ∷ more) → HaveBodies (with_body more key it)
    → HaveBodies (if b then record group { bodies = group.bodies ++ it ∷ [] } ∷ more
    else group ∷ with_body more key it)
have_by group more key it true h ih =
    (omega (arith, h.0, length-append group.bodies (it ∷ [])), h.1)
have_by group more key it false h ih = (h.0, ih)

have_more : (groups : List Group) (key : Key) (it : Written) → HaveBodies groups
    → HaveBodies (with_body groups key it)
have_more [] key it h = (omega arith, tt)
have_more (group ∷ more) key it h =
    have_by group more key it (same_key group.key key) h (have_more more key it h.1)

have_all : (names : List (List ℕ)) (fallback : List ℕ) (groups : List Group) (all : List Written)
    → HaveBodies groups → HaveBodies (grouped names fallback groups all)
unfolding grouped
have_all names fallback groups [] h = h
have_all names fallback groups (it ∷ more) h =
    have_all names fallback (with_body groups (body_key names fallback it) it) more
    (have_more groups (body_key names fallback it) it h)

-- what is written beside what stands
pub record IsReady (source : Source) (all : List Written) (bodies : List Bodied) : Type 0 where
  pub fits : Fits source all bodies
  pub gathers : Gathers source.tags source.fallback source.groups all
  pub serves : Each (ServesBody source.tags source.fallback source.groups source.automata) all
  pub have : HaveBodies source.groups

module _ (source : Source) (all : List Written) (bodies : List Bodied)
    (ready : IsReady source all bodies) where
  pub owned : (f : ℕ) (group : Group) → slice_get source.groups f ≡ Some group
      → group.bodies ≡ placed_at source.tags source.fallback source.groups f all
  owned f group there =
      by (slice_get source.groups f) there (ready.gathers.are f)
    where
      by : (o : Option Group) → o ≡ Some group
          → bodies_at o ≡ placed_at source.tags source.fallback source.groups f all
          → group.bodies ≡ placed_at source.tags source.fallback source.groups f all
      by None e h = absurd (let never : ⊥ = cc in never)
      by (Some x) e h = let same : x ≡ group = cc in ap (λ (g : Group). g.bodies) (sym same) ∙ h

  own_fits : (f : ℕ) (group : Group) → slice_get source.groups f ≡ Some group
      → Fits source group.bodies (bodies_of bodies f)
  own_fits f group there =
      subst (λ (l : List Written). Fits source l (bodies_of bodies f)) (sym (owned f group there))
      (fits_placed source f all bodies ready.fits ready.gathers.places)

  own_serves : (f : ℕ) (group : Group) → slice_get source.groups f ≡ Some group
      → Each (ServesBody source.tags source.fallback source.groups source.automata) group.bodies
  own_serves f group there =
      subst (λ (l : List Written).
      Each (ServesBody source.tags source.fallback source.groups source.automata) l)
      (sym (owned f group there))
      (each_filter _ _ all ready.serves)

  -- ---- one function

  own_route : (program : Program) → program.automata ≡ source.automata → (f : ℕ) (group : Group)
      → slice_get source.groups f ≡ Some group → (c : Clause) (cs : List Clause)
      → clauses group ≡ c ∷ cs
      → IsValidRoute program (length (bodies_of bodies f)) (route source.automata (clauses group))
  own_route program same f group there c cs e =
      by (names_of source.tags source.fallback source.groups source.automata group.bodies
      (own_serves f group there))
    where
      many : length (clauses group) ≤ length (bodies_of bodies f)
      many =
          omega (
            arith,
            clauses_count group.bodies,
            fits_length source group.bodies (bodies_of bodies f) (own_fits f group there),
          )

      by : NamesOne source.automata group.bodies ⊎ NamesNone group.bodies
          → IsValidRoute program (length (bodies_of bodies f))
          (route source.automata (clauses group))
      by (inl one) =
          valid_route source.automata program same (clauses group)
          (length (bodies_of bodies f)) many
          one.name (ap (λ (o : Option (List ℕ)). unwrap_or o []) one.named) 1 one.has (inr refl)
      by (inr none) =
          let others = others_none source.tags source.fallback source.groups source.automata f group
          there none.none all in
          valid_route source.automata program same (clauses group)
          (length (bodies_of bodies f)) many
          [] (ap (λ (o : Option (List ℕ)). unwrap_or o []) none.named) 0
          (fallback_has source.tags source.fallback source.groups source.automata group.bodies c cs
          (own_serves f group there)
          (subst (λ (l : List Written). Each (λ it.
          has_other source.tags source.fallback source.groups
          (body_key source.tags source.fallback it)
          ≡ false) l) (sym (owned f group there)) others) e none.none)
          (inl (none.cases 0))

  own_one : (f : ℕ) (group : Group) → slice_get source.groups f ≡ Some group → clauses group ≡ []
      → classifier_faults group ≡ [] → length (bodies_of bodies f) ≡ 1
  own_one f group there e none =
      let faults = append_none (bodies_faults group [] group.bodies) (clauses_faults group) none in
      omega (
        arith,
        alone group group.bodies e faults.0,
        each_at (λ (g : Group). 1 ≤ length g.bodies) source.groups f group ready.have there,
        fits_length source group.bodies (bodies_of bodies f) (own_fits f group there),
      )

  mapped_length : (xs : List Bodied) → length (map (λ (it : Bodied). it.body) xs) ≡ length xs
  mapped_length [] = refl
  mapped_length (x ∷ xs) = ap suc (mapped_length xs)

  own_routed : (program : Program) → program.automata ≡ source.automata → (f : ℕ) (group : Group)
      (tag : ℕ) → slice_get source.groups f ≡ Some group → classifier_faults group ≡ []
      → IsRouted program (function_of source.automata tag group (bodies_of bodies f))
  own_routed program same f group tag there none =
      record {
        routed = subst (λ (n : ℕ).
            IfSome (dispatch_by source.automata (clauses group)) (IsValidRoute program n))
            (sym (mapped_length (bodies_of bodies f))) (to (clauses group) refl);
        one_body = subst (λ (n : ℕ). IfNone (dispatch_by source.automata (clauses group)) (n ≡ 1))
            (sym (mapped_length (bodies_of bodies f))) (one (clauses group) refl);
      }
    where
      to : (cs : List Clause) → clauses group ≡ cs
          → IfSome (dispatch_by source.automata cs)
          (IsValidRoute program (length (bodies_of bodies f)))
      to [] e = tt
      to (c ∷ cs) e =
          subst (λ (l : List Clause).
          IsValidRoute program (length (bodies_of bodies f)) (route source.automata l)) e
          (own_route program same f group there c cs e)

      one : (cs : List Clause) → clauses group ≡ cs
          → IfNone (dispatch_by source.automata cs) (length (bodies_of bodies f) ≡ 1)
      one [] e = own_one f group there e none
      one (c ∷ cs) e = tt

  -- ---- functions by number

  -- which function has a number
  pub record IsFunctionAt (sts : List Stated) (groups : List Group) (n f : ℕ)
      (x : Function) : Type 0 where
    pub group : Group
    pub there : slice_get groups f ≡ Some group
    pub is : function_of source.automata (group_tag source sts group) group
        (bodies_of bodies (n + f)) ≡ x

  pub function_at : (sts : List Stated) (n : ℕ) (groups : List Group) (f : ℕ) (x : Function)
      → slice_get (program_functions source sts n groups bodies) f ≡ Some x
      → IsFunctionAt sts groups n f x
  unfolding program_functions
  function_at sts n [] f x e = absurd (let never : ⊥ = cc in never)
  function_at sts n (group ∷ more) zero x e =
      let plus : n + 0 ≡ n = omega arith in
      record {
        group = group;
        there = refl;
        is = ap (λ (m : ℕ).
            function_of source.automata (group_tag source sts group) group (bodies_of bodies m))
            plus
            ∙ some_same e;
      }
  function_at sts n (group ∷ more) (suc f) x e =
      let r = function_at sts (n + 1) more f x e in
      let plus : n + suc f ≡ n + 1 + f = omega arith in
      record {
        group = r.group;
        there = r.there;
        is = ap (λ (m : ℕ). function_of source.automata (group_tag source sts r.group) r.group
            (bodies_of bodies m)) plus ∙ r.is;
      }

  function_there : (sts : List Stated) (n : ℕ) (groups : List Group) (f : ℕ) (group : Group)
      → slice_get groups f ≡ Some group
      → slice_get (program_functions source sts n groups bodies) f
      ≡ Some (function_of source.automata (group_tag source sts group) group
      (bodies_of bodies (n + f)))
  unfolding program_functions
  function_there sts n [] f group e = absurd (let never : ⊥ = cc in never)
  function_there sts n (x ∷ more) zero group e =
      let same : x ≡ group = some_same e in
      let plus : n ≡ n + 0 = omega arith in
      ap (λ (g : Group). Some (function_of source.automata (group_tag source sts g) g
      (bodies_of bodies n))) same
      ∙ ap (λ (m : ℕ). Some (function_of source.automata (group_tag source sts group) group
      (bodies_of bodies m))) plus
  function_there sts n (x ∷ more) (suc f) group e =
      let plus : n + 1 + f ≡ n + suc f = omega arith in
      function_there sts (n + 1) more f group e
      ∙ ap (λ (m : ℕ). Some (function_of source.automata (group_tag source sts group) group
      (bodies_of bodies m))) plus

  pub nothing_plus : (n : ℕ) → 0 + n ≡ n
  nothing_plus n = omega arith

  functions_routed : (program : Program) → program.automata ≡ source.automata → (sts : List Stated)
      → KeepTogether source sts
      → Each (IsRouted program) (program_functions source sts 0 source.groups bodies)
  functions_routed program same sts together =
      each_from _ (program_functions source sts 0 source.groups bodies) (λ f x e.
      let r = function_at sts 0 source.groups f x e in
      let none = append_none (classifier_faults r.group) _
      (each_at (λ (group : Group). group_faults source sts group ≡ []) source.groups f r.group
      together
      r.there) in
      subst (IsRouted program)
      (ap (λ (m : ℕ). function_of source.automata (group_tag source sts r.group) r.group
      (bodies_of bodies m)) (sym (nothing_plus f)) ∙ r.is)
      (own_routed program same f r.group (group_tag source sts r.group) r.there none.0))

  -- ---- entry functions

  no_params : (ps : List tree.Param) → has_params ps ≡ false → ps ≡ []
  no_params [] e = refl
  no_params (p ∷ ps) e = absurd (let never : ⊥ = cc in never)

  no_fault : (b : Bool) (it : Written) → fault_if b HEAD_DIFFERS it.at ≡ [] → b ≡ false
  no_fault true it e = absurd (let never : ⊥ = cc in never)
  no_fault false it e = refl

  is_false : (a b : Bool) → a ≡ true → (a && b) ≡ false → b ≡ false
  is_false true b e h = h
  is_false false b e h = absurd (let never : ⊥ = cc in never)

  none_taken : (group : Group) → has_no_params group.key ≡ true → (its : List Written)
      (bs : List Bodied) → flat_map (λ it. fault_if (breaks_params group it) HEAD_DIFFERS it.at) its
      ≡ []
      → Fits source its bs → params_of bs ≡ []
  none_taken group key [] [] e h = refl
  none_taken group key [] (b ∷ bs) e h = refl_of h
    where
      refl_of : ⊥ → b.params ≡ []
      refl_of h = absurd h
  none_taken group key (it ∷ its) [] e h = absurd h
  none_taken group key (it ∷ its) (b ∷ bs) e h =
      h.0.params (no_params it.function.head.params
      (is_false (has_no_params group.key) (has_params it.function.head.params) key
      (no_fault (breaks_params group it) it
      (append_none (fault_if (breaks_params group it) HEAD_DIFFERS it.at) _ e).0)))

  entry_key : (key : Key) (name : List ℕ) → same_key key (Enters name) ≡ true
      → has_no_params key ≡ true
  entry_key (Named x) name e = absurd (let never : ⊥ = cc in never)
  entry_key (Operates x) name e = absurd (let never : ⊥ = cc in never)
  entry_key (Enters x) name e = refl
  entry_key Misshapen name e = absurd (let never : ⊥ = cc in never)

  takes_none : (sts : List Stated) (marks : List Mark) (dynamic : ℤ) (done : Done)
      → done.bodies ≡ bodies → KeepTogether source sts → (name : List ℕ) (f : ℕ)
      → number_of source.groups (Enters name) ≡ Some f
      → Takes (program_of source sts marks dynamic done) f []
  takes_none sts marks dynamic done same together name f e =
      let r =
      position_found (λ (group : Group). same_key group.key (Enters name))
      source.groups f e in
      let none = append_none (classifier_faults r.it) _
      (each_at (λ (group : Group). group_faults source sts group ≡ []) source.groups f r.it together
      r.there) in
      let params =
      append_none (param_faults r.it) (head_faults source (heads_of_group source sts r.it))
      none.1 in
      record {
        function =
            function_of source.automata (group_tag source sts r.it) r.it (bodies_of bodies f);
        there =
            ap (λ (bs : List Bodied). slice_get (program_functions source sts 0 source.groups bs) f)
            same
            ∙ function_there sts 0 source.groups f r.it r.there
            ∙ ap (λ (m : ℕ). Some (function_of source.automata (group_tag source sts r.it) r.it
            (bodies_of bodies m))) (nothing_plus f);
        params_are =
            none_taken r.it (entry_key r.it.key name r.passes) r.it.bodies (bodies_of bodies f)
            params.0 (own_fits f r.it r.there);
      }

  entered_valid : (program : Program) (groups : List Group) (autos : List Automaton)
      → ((name : List ℕ) (f : ℕ) → number_of groups (Enters name) ≡ Some f → Takes program f [])
      → Each (IsValidAutomaton program) (entered groups autos)
  unfolding entered
  entered_valid program groups [] h = tt
  entered_valid program groups (x ∷ more) h =
      (by (number_of groups (Enters x.name)) refl, entered_valid program groups more h)
    where
      by : (o : Option ℕ) → number_of groups (Enters x.name) ≡ o
          → IfSome o (λ f. Takes program f [])
      by None e = tt
      by (Some f) e = h x.name f e

-- so it is with each source whose declarations stand
pub ready_of : (tree : Tree) (done : Done)
    → declarations (source_of tree) (around_of (source_of tree) tree)
    (beginning (source_of tree)) tree
    ≡ Stands done → IsReady (source_of tree) (written tree) done.bodies
ready_of tree done stands =
    let source : Source = source_of tree in
    let fits = (bodies_fit source (around_of source tree) (beginning source) tree).of done stands in
    record {
      fits = fits;
      gathers = gathers source.tags source.fallback (written tree)
          (fits_shaped source (written tree) done.bodies fits);
      serves = automata_serve source.tags source.fallback source.groups (written tree);
      have = have_all source.tags source.fallback [] (written tree) tt;
    }

pub all_routed : RoutesAreValid
all_routed tree done marks dynamic stands together =
    let source : Source = source_of tree in
    let ready = ready_of tree done stands in
    let sts : List Stated = all_stated source tree in
    let it : Program = program_of source sts marks dynamic done in
    record {
      functions = functions_routed source (written tree) done.bodies ready it refl sts together;
      automata = entered_valid source (written tree) done.bodies ready it source.groups
          (classified source.tags source.fallback source.groups [] (written tree))
          (λ name f e. takes_none source (written tree) done.bodies ready sts marks dynamic
          done refl
          together name f e);
    }
