-- All heads of all functions, by what is told of each heading.
use Rattle.std.proofs.Common.{◌≡◌, ◌≢◌, ◌<◌, ℕ, zero, suc, Bool, true, false, ◌||◌, ◌&&◌, nat_eq}
use Rattle.std.proofs.Common.{if◌then◌else◌, List, [], ◌∷◌, length, position, Option, Some, None}
use Rattle.std.proofs.Common.{option_map, inl, inr, refl, sym, ap, subst, ◌∙◌, arith}
use Rattle.std.specs.Prelude.{slice_get, ◌⊎◌}
use Rattle.std.proofs.lemmas.Bool.{false≢true, eq-eqb, eqb-true}
use Rattle.names_rules.specs.Verdict.{Fault}
use Rattle.pawn_verdict.specs.Answers.{Fails}
use Rattle.pawn_verdict.specs.declared.fault.CheckFault.{CheckFault}
use Rattle.pawn_verdict.specs.declared.fault.CheckFault.TheVariants.{Source as Broken, Memory}
use Rattle.types_rules.specs.Around.{Head}
use Rattle.types_rules.specs.Keys.{Key, same_key}
use Rattle.types_rules.specs.Groups.{Group, number_of}
use Rattle.types_rules.specs.Headings.{Heading, belongs, is_enters}
use Rattle.types_rules.specs.Sources.{Source, Stated, stated}
use Rattle.types_rules.specs.Functions.{differing, head_faults, heads_of_group}
use Rattle.check_source.proofs.PlaceLaws.{place, place_is}
use Rattle.check_source.proofs.TableLaws.{equal_keys}
use Rattle.check_functions.specs.Own.{enters_all, own_key, is_key}
use Rattle.check_functions.specs.Stated.{head_at}
use Rattle.check_functions.proofs.OwnLaws.{keyed_at, role_is, has_number, passes_at}
use Rattle.check_functions.proofs.StatedLaws.{stated_get, place_stated}
use Rattle.check_functions.specs.Differ.{differing_by, differing_at, place_faults, number_faults}
use Rattle.check_functions.specs.Differ.{key_faults, heading_faults, own_faults, group_faults}
use Rattle.check_functions.specs.Differ.{forward_faults, enters_at, entry_faults, all_heads}
use Rattle.check_functions.proofs.DifferLaws.{first_none, first_found, none_of, one_of, against}

module _ (source : Source) (heads : List (Option Head)) where
  abbrev all : List Stated
  all = stated source source.headings heads

  abbrev of : Key → Stated → Bool
  of key it = belongs source.tags source.fallback key it.heading

  abbrev first : Key → Option ℕ
  first key = position (belongs source.tags source.fallback key) source.headings

  place_of : (key : Key) → place (of key) all ≡ first key
  place_of key =
      place_stated source (belongs source.tags source.fallback key) source.headings heads
      ∙ sym (place_is (belongs source.tags source.fallback key) source.headings)

  heading_by : (got : Option Heading) (i : ℕ) (x : Stated)
      → option_map (λ (it : Heading). record { heading = it; head = head_at heads i }) got ≡ Some x
      → got ≡ Some x.heading
  heading_by None i x h = absurd (let no : ⊥ = cc in no)
  heading_by (Some it) i x h = ap (option_map (λ (s : Stated). s.heading)) h

  heading_of : (i : ℕ) (x : Stated) → slice_get all i ≡ Some x
      → slice_get source.headings i ≡ Some x.heading
  heading_of i x h =
      heading_by (slice_get source.headings i) i x
      (sym (stated_get source source.headings heads i) ∙ h)

  stated_of : (i : ℕ) (it : Heading) → slice_get source.headings i ≡ Some it
      → slice_get all i ≡ Some (record { heading = it; head = head_at heads i })
  stated_of i it h =
      stated_get source source.headings heads i
      ∙ ap (option_map (λ (x : Heading). record { heading = x; head = head_at heads i })) h

  -- at its place
  differs_at : (f i : ℕ) (x y : Stated) → slice_get all f ≡ Some x → slice_get all i ≡ Some y
      → differing_at source all f i ≡ differing source x y
  differs_at f i x y a b =
      ap (λ (s : Option Stated). differing_by source s (slice_get all i)) a
      ∙ ap (differing_by source (Some x)) b

  eqb_apart : (f i : ℕ) (b : Bool) → nat_eq f i ≡ b → f ≢ i → b ≡ false
  eqb_apart f i true e d = absurd (d (eqb-true f i e))
  eqb_apart f i false e d = refl

  place_apart : (f i : ℕ) → f ≢ i → place_faults source all (Some f) i ≡ differing_at source all f i
  place_apart f i d =
      ap (λ (b : Bool). if b then [] else differing_at source all f i)
      (eqb_apart f i (nat_eq f i) refl d)

  against_head : (key : Key) (its : List Stated)
      → against (of key) (differing source) its ≡ head_faults source its
  against_head key [] = refl
  against_head key (it ∷ more) = refl

  -- ---- a heading that belongs to a function

  own_key_by : (key : Key) (own : Option Key) → is_key source.tags source.fallback key own ≡ true
      → (k : Key) × (own ≡ Some k) × (key ≡ k)
  own_key_by key None h = absurd (false≢true h)
  own_key_by key (Some k) h = (k, refl, equal_keys key k h)

  either : (a b : Bool) → a || b ≡ true → (a ≡ true) ⊎ (b ≡ true)
  either true b h = inl refl
  either false b h = inr h

  both_true : (a b : Bool) → a && b ≡ true → (a ≡ true) × (b ≡ true)
  both_true true b h = (refl, h)
  both_true false b h = absurd (false≢true h)

  number_by : (r : Option ℕ) (key : Key) (i f : ℕ) → first key ≡ Some f → (r ≡ None → ⊥) → f ≢ i
      → number_faults source all key i r ≡ differing_at source all f i
  number_by None key i f p some d = absurd (some refl)
  number_by (Some n) key i f p some d =
      ap (λ (o : Option ℕ). place_faults source all o i) p ∙ place_apart f i d

  own_is : (i f : ℕ) (it : Heading) (key : Key) → slice_get source.headings i ≡ Some it
      → own_key source.tags source.fallback it ≡ Some key
      → first key ≡ Some f → (number_of source.groups key ≡ None → ⊥) → f ≢ i
      → own_faults source all i ≡ differing_at source all f i
  own_is i f it key here own p some d =
      ap (heading_faults source all i) here ∙ ap (key_faults source all i) own
      ∙ number_by (number_of source.groups key) key i f p some d

  entry_is : (i f n : ℕ) (it : Heading) (group : Group) → slice_get source.headings i ≡ Some it
      → enters_all it ≡ true → slice_get source.groups n ≡ Some group
      → is_enters group.key ≡ true → first group.key ≡ Some f → f ≢ i
      → entry_faults source all i n ≡ differing_at source all f i
  entry_is i f n it group here enters there own p d =
      ap (λ (o : Option Heading). forward_faults source all i (enters_at o) n) here
      ∙ ap (λ (b : Bool). forward_faults source all i b n) enters
      ∙ ap (group_faults source all i) there
      ∙ ap (λ (b : Bool). if b then place_faults source all (first group.key) i else []) own
      ∙ ap (λ (o : Option ℕ). place_faults source all o i) p ∙ place_apart f i d

  -- a key of a function has a number
  numbered : (groups : List Group) (n : ℕ) (group : Group) (b : Bool)
      → slice_get groups n ≡ Some group → same_key group.key group.key ≡ b
      → number_of groups group.key ≡ None → b ≡ false
  numbered groups n group b at s none = sym s ∙ (has_number groups n group at).known none

  module _ (own : (i : ℕ) → i < length source.headings → own_faults source all i ≡ [])
      (entry : (i n : ℕ) → i < length source.headings → n < length source.groups
      → entry_faults source all i n ≡ []) where
    slice_less : {A : Type 0} (xs : List A) (i : ℕ) (x : A) → slice_get xs i ≡ Some x
        → i < length xs
    slice_less [] i x h = absurd (let no : ⊥ = cc in no)
    slice_less (y ∷ ys) zero x h = omega arith
    slice_less (y ∷ ys) (suc i) x h =
        let less : i < length ys = slice_less ys i x h in omega (arith, less)

    no_differs : (n : ℕ) (group : Group) (f i : ℕ) (x y : Stated)
        → slice_get source.groups n ≡ Some group → place (of group.key) all ≡ Some f
        → slice_get all f ≡ Some x → f ≢ i → slice_get all i ≡ Some y → of group.key y ≡ true
        → differing source x y ≡ []
    no_differs n group f i x y there p a d b belongs_here =
        let p' : first group.key ≡ Some f = sym (place_of group.key) ∙ p in
        let here = heading_of i y b in
        let less = slice_less source.headings i y.heading here in
        sym (differs_at f i x y a b)
        ∙ elim (either _ _ (sym (role_is source.tags source.fallback group.key y.heading
        y.heading.role) ∙ belongs_here)) [
          | inl mine ↦
              let k = own_key_by group.key (own_key source.tags source.fallback y.heading) mine in
              let some : number_of source.groups k.0 ≡ None → ⊥ = λ none.
              let none' : number_of source.groups group.key ≡ None =
              ap (number_of source.groups) k.2 ∙ none in
              let self : same_key group.key group.key ≡ false =
              (has_number source.groups n group there).known none' in
              false≢true (sym self ∙ ap (same_key group.key) k.2
              ∙ (ap (is_key source.tags source.fallback group.key) (sym k.1) ∙ mine)) in
              sym (own_is i f y.heading k.0 here k.1 (ap first (sym k.2) ∙ p') some d) ∙ own i less
          | inr all_entries ↦
              let two = both_true _ _ all_entries in
              sym (entry_is i f n y.heading group here two.1 there two.0 p' d)
              ∙ entry i n less (slice_less source.groups n group there)
        ]

    pub none_differs : all_heads source all source.groups ≡ []
    none_differs =
        none_of (λ (group : Group). head_faults source (heads_of_group source all group))
        source.groups (λ n group there.
        sym (against_head group.key (heads_of_group source all group))
        ∙ first_none (of group.key) (differing source) all
        (λ f i x y p a d b own_here. no_differs n group f i x y there p a d b own_here))

  -- ---- one that differs

  slice_within : {A : Type 0} (xs : List A) (i : ℕ) → i < length xs
      → (x : A) × (slice_get xs i ≡ Some x)
  slice_within [] i h = absurd (omega (arith, h))
  slice_within (y ∷ ys) zero h = (y, refl)
  slice_within (y ∷ ys) (suc i) h =
      let less : i < length ys = omega (arith, h) in slice_within ys i less

  no_fault : (fault : CheckFault) → Fails [] fault
      → Fails (all_heads source all source.groups) fault
  no_fault (Broken kind place) h = let k : h.cause.0 < 0 = h.cause.1 in absurd (omega (arith, k))
  no_fault Memory h = record { cause = tt }

  found_at : (n : ℕ) (group : Group) (f i : ℕ) (fault : CheckFault)
      → slice_get source.groups n ≡ Some group → first group.key ≡ Some f → f ≢ i
      → (y : Heading) → slice_get source.headings i ≡ Some y
      → belongs source.tags source.fallback group.key y ≡ true
      → (x : Heading) → slice_get source.headings f ≡ Some x
      → Fails (differing_at source all f i) fault → Fails (all_heads source all source.groups) fault
  found_at n group f i fault there p d y b own_here x a h =
      let xs : Stated = record { heading = x; head = head_at heads f } in
      let ys : Stated = record { heading = y; head = head_at heads i } in
      one_of (λ (g : Group). head_faults source (heads_of_group source all g)) source.groups n group
      fault there
      (subst (λ (fs : List Fault). Fails fs fault)
      (against_head group.key (heads_of_group source all group))
      (first_found (of group.key) (differing source) all f i xs ys fault (place_of group.key ∙ p)
      (stated_of f x a) d (stated_of i y b) own_here
      (subst (λ (fs : List Fault). Fails fs fault)
      (differs_at f i xs ys (stated_of f x a) (stated_of i y b)) h)))

  apart_by : (f i : ℕ) → nat_eq f i ≡ false → f ≢ i
  apart_by f i e = λ same. false≢true (sym e ∙ eq-eqb f i same)

  -- the first heading of a key
  at_first : (key : Key) (f : ℕ) → first key ≡ Some f
      → (x : Heading) × (slice_get source.headings f ≡ Some x)
      × (belongs source.tags source.fallback key x ≡ true)
  at_first key f p =
      passes_at (belongs source.tags source.fallback key) source.headings f
      (sym (place_is (belongs source.tags source.fallback key) source.headings) ∙ p)

  module _ (i : ℕ) (fault : CheckFault) where
    -- a place of a function that is known
    by_first : (n : ℕ) (group : Group) (y : Heading) → slice_get source.groups n ≡ Some group
        → slice_get source.headings i ≡ Some y
        → belongs source.tags source.fallback group.key y ≡ true → (f : Option ℕ)
        → first group.key ≡ f → Fails (place_faults source all f i) fault
        → Fails (all_heads source all source.groups) fault
    by_first n group y there here own_here None p h = no_fault fault h
    by_first n group y there here own_here (Some f) p h = by (nat_eq f i) refl h
      where
        by : (b : Bool) → nat_eq f i ≡ b
            → Fails (if b then [] else differing_at source all f i) fault
            → Fails (all_heads source all source.groups) fault
        by true e k = no_fault fault k
        by false e k =
            let x = at_first group.key f p in
            found_at n group f i fault there p (apart_by f i e) y here own_here x.0 x.1 k

    own_here : (key : Key) (group : Group) (y : Heading)
        → own_key source.tags source.fallback y ≡ Some key → same_key group.key key ≡ true
        → belongs source.tags source.fallback group.key y ≡ true
    own_here key group y own same =
        role_is source.tags source.fallback group.key y y.role
        ∙ ap (λ (k : Option Key). is_key source.tags source.fallback group.key k
        || (is_enters group.key && enters_all y)) own
        ∙ ap (λ (b : Bool). b || (is_enters group.key && enters_all y)) same

    by_number : (key : Key) (y : Heading) → slice_get source.headings i ≡ Some y
        → own_key source.tags source.fallback y ≡ Some key
        → (number : Option ℕ) → number_of source.groups key ≡ number
        → Fails (number_faults source all key i number) fault
        → Fails (all_heads source all source.groups) fault
    by_number key y here own None e h = no_fault fault h
    by_number key y here own (Some n) e h =
        let at = keyed_at source.groups key n e in
        let equal : at.0.key ≡ key = equal_keys at.0.key key at.2 in
        by_first n at.0 y at.1 here (own_here key at.0 y own at.2) (first at.0.key) refl
        (subst (λ (k : Key). Fails (place_faults source all (first k) i) fault) (sym equal) h)

    by_key : (y : Heading) → slice_get source.headings i ≡ Some y → (key : Option Key)
        → own_key source.tags source.fallback y ≡ key
        → Fails (key_faults source all i key) fault
        → Fails (all_heads source all source.groups) fault
    by_key y here None e h = no_fault fault h
    by_key y here (Some key) e h = by_number key y here e (number_of source.groups key) refl h

    by_heading : (it : Option Heading) → slice_get source.headings i ≡ it
        → Fails (heading_faults source all i it) fault
        → Fails (all_heads source all source.groups) fault
    by_heading None e h = no_fault fault h
    by_heading (Some it) e h = by_key it e (own_key source.tags source.fallback it) refl h

    pub own_fails : Fails (own_faults source all i) fault
        → Fails (all_heads source all source.groups) fault
    own_fails h = by_heading (slice_get source.headings i) refl h

    -- a forward of `entry`
    entry_here : (group : Group) (y : Heading) → is_enters group.key ≡ true → enters_all y ≡ true
        → belongs source.tags source.fallback group.key y ≡ true
    entry_here group y own enters =
        role_is source.tags source.fallback group.key y y.role
        ∙ ap (λ (b : Bool). is_key source.tags source.fallback group.key
        (own_key source.tags source.fallback y) || (b && enters_all y)) own
        ∙ ap (λ (b : Bool). is_key source.tags source.fallback group.key
        (own_key source.tags source.fallback y) || b) enters
        ∙ or_true (is_key source.tags source.fallback group.key
        (own_key source.tags source.fallback y))
      where
        or_true : (b : Bool) → b || true ≡ true
        or_true true = refl
        or_true false = refl

    by_enters : (n : ℕ) (group : Group) (y : Heading) → slice_get source.groups n ≡ Some group
        → slice_get source.headings i ≡ Some y → enters_all y ≡ true
        → (b : Bool) → is_enters group.key ≡ b
        → Fails (if b then place_faults source all (first group.key) i else []) fault
        → Fails (all_heads source all source.groups) fault
    by_enters n group y there here enters false e h = no_fault fault h
    by_enters n group y there here enters true e h =
        by_first n group y there here (entry_here group y e enters) (first group.key) refl h

    by_group : (n : ℕ) (y : Heading) → slice_get source.headings i ≡ Some y → enters_all y ≡ true
        → (group : Option Group) → slice_get source.groups n ≡ group
        → Fails (group_faults source all i group) fault
        → Fails (all_heads source all source.groups) fault
    by_group n y here enters None e h = no_fault fault h
    by_group n y here enters (Some group) e h =
        by_enters n group y e here enters (is_enters group.key) refl h

    by_forward : (n : ℕ) (y : Heading) → slice_get source.headings i ≡ Some y → (b : Bool)
        → enters_all y ≡ b → Fails (forward_faults source all i b n) fault
        → Fails (all_heads source all source.groups) fault
    by_forward n y here false e h = no_fault fault h
    by_forward n y here true e h = by_group n y here e (slice_get source.groups n) refl h

    by_entry : (n : ℕ) (it : Option Heading) → slice_get source.headings i ≡ it
        → Fails (forward_faults source all i (enters_at it) n) fault
        → Fails (all_heads source all source.groups) fault
    by_entry n None e h = no_fault fault h
    by_entry n (Some it) e h = by_forward n it e (enters_all it) refl h

    pub entry_fails : (n : ℕ) → Fails (entry_faults source all i n) fault
        → Fails (all_heads source all source.groups) fault
    entry_fails n h = by_entry n (slice_get source.headings i) refl h
