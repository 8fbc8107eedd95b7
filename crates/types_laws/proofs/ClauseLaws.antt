-- The clauses of a function: its automaton, its cases, and how many bodies it has without them.
use Rattle.std.proofs.Common.{◌≡◌, ◌⊎◌, inl, inr, ◌+◌, ◌<◌, ◌≤◌, ℕ, zero, suc, List, [], ◌∷◌, Bool}
use Rattle.std.proofs.Common.{true, false, not, ◌||◌, Option, None, Some, refl, ap, ◌∙◌, cond}
use Rattle.std.proofs.Common.{arith}
use Rattle.std.specs.Prelude.{length, map, filter_map, find, slice_get, position, nat_lt, nat_eq}
use Rattle.std.specs.Prelude.{unwrap_or}
use Rattle.std.specs.List.{position_or_len, list_any}
use Rattle.std.proofs.lemmas.Bool.{eqb-true, lt-ltb}
use Rattle.pawn_tree.specs.declared.name.StateName.{StateName}
use Rattle.pawn_states.specs.declared.clause.Clause.{Clause}
use Rattle.pawn_states.specs.Dispatch.{automaton_named, cases_from}
use Rattle.pawn_meaning.specs.Program.{Automaton}
use Rattle.names_rules.specs.Verdict.{Fault}
use Rattle.types_rules.specs.declared.fault.TheConstants.{REDEFINED, MIXED_AUTOMATA}
use Rattle.types_rules.specs.Clauses.{named_or}
use Rattle.types_rules.specs.Keys.{same_key}
use Rattle.types_rules.specs.Groups.{Written, Group, body_key}
use Rattle.types_rules.specs.Automata.{names_states, names_some, has_other}
use Rattle.types_rules.specs.Headings.{is_enters}
use Rattle.types_rules.specs.Functions.{fault, fault_if, has_classifier, clause_of, bare_faults}
use Rattle.types_rules.specs.Functions.{bodies_faults}
use Rattle.types_laws.specs.Objects.{Each}
use Rattle.types_laws.proofs.Facts.{each_append}
use Rattle.types_laws.proofs.GroupLaws.{place}
use Rattle.types_laws.proofs.FirstHeads.{append_none}
use Rattle.types_laws.proofs.GroupBodies.{placed_at}
use Rattle.types_laws.proofs.AutomatonLaws.{Has, Serves, ServesBody}

-- ---- lists

pub some_same : {A : Type 0} {x y : A} → Some x ≡ Some y → x ≡ y
some_same e = cc

found_by : {A : Type 0} (p : A → Bool) (y : A) (ys : List A) (x : A) (f : ℕ) (b : Bool) → p y ≡ b
    → cond (not b) (1 + position_or_len p ys) 0 ≡ f → slice_get (y ∷ ys) f ≡ Some x
    → ((g : ℕ) → position_or_len p ys ≡ g → slice_get ys g ≡ Some x → find p ys ≡ Some x)
    → cond b (Some y) (find p ys) ≡ Some x
found_by p y ys x zero true s e h ih = h
found_by p y ys x (suc g) true s e h ih = absurd (omega (arith, e))
found_by p y ys x zero false s e h ih = absurd (omega (arith, e))
found_by p y ys x (suc g) false s e h ih = ih g (omega (arith, e)) h

pub found_at : {A : Type 0} (p : A → Bool) (xs : List A) (x : A) (f : ℕ) → position_or_len p xs ≡ f
    → slice_get xs f ≡ Some x → find p xs ≡ Some x
found_at p [] x f e h = absurd (let never : ⊥ = cc in never)
found_at p (y ∷ ys) x f e h =
    found_by p y ys x f (p y) refl e h (λ g d k. found_at p ys x g d k)

pub record IsAt {A : Type 0} (xs : List A) (x : A) (f : ℕ) : Type 0 where
  pub there : slice_get xs f ≡ Some x
  pub within : f < length xs

at_by : {A : Type 0} (p : A → Bool) (y : A) (ys : List A) (x : A) (b : Bool) → p y ≡ b
    → cond b (Some y) (find p ys) ≡ Some x
    → (find p ys ≡ Some x → IsAt ys x (position_or_len p ys))
    → IsAt (y ∷ ys) x (cond (not b) (1 + position_or_len p ys) 0)
at_by p y ys x true s e ih = record { there = e; within = omega arith }
at_by p y ys x false s e ih =
    let h = ih e in
    let more : 1 + position_or_len p ys ≡ suc (position_or_len p ys) = omega arith in
    record {
      there = ap (slice_get (y ∷ ys)) more ∙ h.there;
      within = omega (arith, h.within);
    }

find_at : {A : Type 0} (p : A → Bool) (xs : List A) (x : A) → find p xs ≡ Some x
    → IsAt xs x (position_or_len p xs)
find_at p [] x e = absurd (let never : ⊥ = cc in never)
find_at p (y ∷ ys) x e = at_by p y ys x (p y) refl e (find_at p ys x)

position_by : (n m : ℕ) (b : Bool) → nat_lt n m ≡ b → n < m → cond b (Some n) None ≡ Some n
position_by n m true e h = refl
position_by n m false e h =
    absurd (let t = lt-ltb n m h in let never : ⊥ = cc in never)

-- what is found stands at its position
pub find_position : {A : Type 0} (p : A → Bool) (xs : List A) (x : A) → find p xs ≡ Some x
    → slice_get xs (unwrap_or (position p xs) 0) ≡ Some x
find_position p xs x e =
    let h = find_at p xs x e in
    ap (λ (z : Option ℕ). slice_get xs (unwrap_or z 0))
    (position_by (position_or_len p xs) (length xs) _ refl h.within) ∙ h.there

pub each_kept : {A : Type 0} (P : A → Type 0) (b : Bool) (x : A) (rest : List A) → (b ≡ true → P x)
    → Each P rest → Each P (cond b (x ∷ rest) rest)
each_kept P true x rest h k = (h refl, k)
each_kept P false x rest h k = k

-- ---- a body with its classifier

abbrev with_states : Written → Option (List StateName) → Written
with_states it states = record it { function = record it.function { states = states } }

-- ---- the clauses of bodies

abbrev pub clauses_in : List Written → List Clause
clauses_in bodies = filter_map clause_of bodies

abbrev pub name_some : List Written → Bool
name_some bodies = list_any (λ (it : Written). names_states it.function.states) bodies

pub clauses_count : (bodies : List Written) → length (clauses_in bodies) ≤ length bodies
clauses_count [] = omega arith
clauses_count (it ∷ more) = by it.function.states (clauses_count more)
  where
    by : (states : Option (List StateName)) → length (clauses_in more) ≤ length more
        → length (clauses_in (with_states it states ∷ more)) ≤ suc (length more)
    by None h = omega (arith, h)
    by (Some states) h = omega (arith, h)

-- some clause names states, and their automaton is known with one
pub record NamesOne (all : List Automaton) (bodies : List Written) : Type 0 where
  pub name : List ℕ
  pub named : automaton_named (clauses_in bodies) ≡ Some name
  pub has : Has all name 1

-- no clause does
pub record NamesNone (bodies : List Written) : Type 0 where
  pub named : automaton_named (clauses_in bodies) ≡ None
  pub none : name_some bodies ≡ false
  pub cases : (n : ℕ) → cases_from n (clauses_in bodies) ≡ []

module _ (names : List (List ℕ)) (fallback : List ℕ) (groups : List Group)
    (all : List Automaton) where
  names_by : (it : Written) (more : List Written) (states : Option (List StateName))
      → Serves names fallback groups all (body_key names fallback it) states
      → NamesOne all more ⊎ NamesNone more
      → NamesOne all (with_states it states ∷ more) ⊎ NamesNone (with_states it states ∷ more)
  names_by it more None s (inl h) = inl (record { name = h.name; named = h.named; has = h.has })
  names_by it more None s (inr h) = inr (record { named = h.named; none = h.none; cases = h.cases })
  names_by it more (Some []) s (inl h) =
      inl (record { name = h.name; named = h.named; has = h.has })
  names_by it more (Some []) s (inr h) =
      inr (record { named = h.named; none = h.none; cases = λ n. h.cases (n + 1) })
  names_by it more (Some (state ∷ others)) s h =
      inl (record { name = named_or [] state.automaton; named = refl; has = s })

  pub names_of : (bodies : List Written)
      → Each (ServesBody names fallback groups all) bodies
      → NamesOne all bodies ⊎ NamesNone bodies
  names_of [] h = inr (record { named = refl; none = refl; cases = λ n. refl })
  names_of (it ∷ more) h = names_by it more it.function.states h.0 (names_of more h.1)

  -- a fallback alone is of the anonymous automaton
  fallback_by : (it : Written) (more : List Written) (states : Option (List StateName)) (c : Clause)
      (cs : List Clause) → Serves names fallback groups all (body_key names fallback it) states
      → has_other names fallback groups (body_key names fallback it) ≡ false
      → clauses_in (with_states it states ∷ more) ≡ c ∷ cs
      → name_some (with_states it states ∷ more) ≡ false
      → (clauses_in more ≡ c ∷ cs → name_some more ≡ false → Has all [] 0)
      → Has all [] 0
  fallback_by it more None c cs s other e none ih = ih e none
  fallback_by it more (Some []) c cs s other e none ih = s other
  fallback_by it more (Some (state ∷ others)) c cs s other e none ih =
      absurd (let never : ⊥ = cc in never)

  pub fallback_has : (bodies : List Written) (c : Clause) (cs : List Clause)
      → Each (ServesBody names fallback groups all) bodies
      → Each (λ it. has_other names fallback groups (body_key names fallback it) ≡ false) bodies
      → clauses_in bodies ≡ c ∷ cs → name_some bodies ≡ false → Has all [] 0
  fallback_has [] c cs h k e none = absurd (let never : ⊥ = cc in never)
  fallback_has (it ∷ more) c cs h k e none =
      fallback_by it more it.function.states c cs h.0 k.0 e none
      (λ d n. fallback_has more c cs h.1 k.1 d n)

  -- the function of a body is the one that its key finds
  finds_group : (f : ℕ) (group : Group) → slice_get groups f ≡ Some group → (bodies : List Written)
      → Each (λ it. find (λ (g : Group). same_key g.key (body_key names fallback it)) groups
      ≡ Some group) (placed_at names fallback groups f bodies)
  finds_group f group there [] = tt
  finds_group f group there (it ∷ more) =
      each_kept _ (nat_eq (place groups (body_key names fallback it)) f) it
      (placed_at names fallback groups f more)
      (λ e. found_at (λ (g : Group). same_key g.key (body_key names fallback it)) groups group f
      (eqb-true (place groups (body_key names fallback it)) f e) there)
      (finds_group f group there more)

  none_other : (group : Group) → name_some group.bodies ≡ false → (bodies : List Written)
      → Each (λ it. find (λ (g : Group). same_key g.key (body_key names fallback it)) groups
      ≡ Some group) bodies
      → Each (λ it. has_other names fallback groups (body_key names fallback it) ≡ false) bodies
  none_other group e [] h = tt
  none_other group e (it ∷ more) h = (ap names_some h.0 ∙ e, none_other group e more h.1)

  pub others_none : (f : ℕ) (group : Group) → slice_get groups f ≡ Some group
      → name_some group.bodies ≡ false → (bodies : List Written)
      → Each (λ it. has_other names fallback groups (body_key names fallback it) ≡ false)
      (placed_at names fallback groups f bodies)
  others_none f group there e bodies =
      none_other group e (placed_at names fallback groups f bodies)
      (finds_group f group there bodies)

-- ---- the numbers of cases

-- a case leads to one of so many bodies
abbrev pub LeadsIn : ℕ → List ℕ × ℕ → Type 0
LeadsIn n case = case.1 < n

cases_more : (n m : ℕ) (cases : List (List ℕ × ℕ)) → n ≤ m → Each (LeadsIn n) cases
    → Each (LeadsIn m) cases
cases_more n m [] le h = tt
cases_more n m (x ∷ more) le h = (omega (arith, le, h.0), cases_more n m more le h.1)

cases_of : (n m : ℕ) (states : List (List ℕ)) → n < m
    → Each (LeadsIn m) (map (λ state. (state, n)) states)
cases_of n m [] lt = tt
cases_of n m (x ∷ more) lt = (lt, cases_of n m more lt)

pub cases_within : (n : ℕ) (cs : List Clause)
    → Each (LeadsIn (n + length cs)) (cases_from n cs)
cases_within n [] = tt
cases_within n (c ∷ cs) =
    each_append _ (map (λ state. (state, n)) c.states) (cases_from (n + 1) cs)
    (cases_of n (n + suc (length cs)) c.states (omega arith))
    (cases_more (n + 1 + length cs) (n + suc (length cs)) (cases_from (n + 1) cs) (omega arith)
    (cases_within (n + 1) cs))

-- ---- one body without a classifier

no_fault : (it : Fault) → it ∷ [] ≡ [] → ⊥
no_fault it e = cc

alone_by : (group : Group) (x y : Written) (more : List Written) (s t : Option (List StateName))
    → clauses_in (with_states x s ∷ with_states y t ∷ more) ≡ []
    → bodies_faults group [] (with_states x s ∷ with_states y t ∷ more) ≡ [] → ⊥
alone_by group x y more (Some s) t e h = let never : ⊥ = cc in never
alone_by group x y more None (Some t) e h = let never : ⊥ = cc in never
alone_by group x y more None None e h =
    let first = append_none (bare_faults group [] (with_states x None)) _ h in
    let second =
    append_none (bare_faults group (with_states x None ∷ []) (with_states y None)) _
    first.1 in
    let twice = append_none
    (fault_if (list_any has_classifier group.bodies || is_enters group.key) MIXED_AUTOMATA y.at)
    (fault REDEFINED y.at ∷ []) second.0 in
    no_fault (fault REDEFINED y.at) twice.1

pub alone : (group : Group) (bodies : List Written) → clauses_in bodies ≡ []
    → bodies_faults group [] bodies ≡ [] → length bodies ≤ 1
alone group [] e h = omega arith
alone group (x ∷ []) e h = omega arith
alone group (x ∷ y ∷ more) e h =
    absurd (alone_by group x y more x.function.states y.function.states e h)
