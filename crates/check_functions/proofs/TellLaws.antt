-- What is told of two headings, by their places.
use Rattle.std.proofs.Common.{◌≡◌, ◌≢◌, ◌<◌, ℕ, Bool, true, false, nat_eq, if◌then◌else◌, List, []}
use Rattle.std.proofs.Common.{length, Option, Some, None, option_map, refl, sym, ap, subst, ◌∙◌}
use Rattle.std.specs.Prelude.{slice_get, position, Result, Ok, Err}
use Rattle.std.proofs.lemmas.Bool.{eq-eqb, eqb-true}
use Rattle.pawn_verdict.specs.Answers.{Fails}
use Rattle.pawn_verdict.specs.declared.fault.CheckFault.{CheckFault}
use Rattle.types_rules.specs.Around.{Head}
use Rattle.types_rules.specs.Keys.{Key}
use Rattle.types_rules.specs.Groups.{Group, number_of}
use Rattle.types_rules.specs.Headings.{Heading, belongs, is_enters}
use Rattle.types_rules.specs.Sources.{Source, Stated, stated}
use Rattle.types_rules.specs.Functions.{differing}
use Rattle.check_functions.specs.Finds.{Finds}
use Rattle.check_functions.specs.Own.{HasNumber}
use Rattle.check_functions.specs.Stated.{head_at}
use Rattle.check_functions.proofs.StatedLaws.{stated_get}
use Rattle.check_functions.specs.Differ.{stated_at, differing_by, differing_at, place_faults}
use Rattle.check_functions.specs.Differ.{number_faults, key_faults, heading_faults, own_faults}
use Rattle.check_functions.specs.Differ.{group_faults, entry_faults, forward_faults, all_heads}
use Rattle.check_functions.specs.Differ.{EachOf, PairsOf}
use Rattle.check_functions.proofs.HeadLaws.{none_differs, own_fails, entry_fails}

module _ (source : Source) (headings : List Heading) (heads : List (Option Head))
    (first place : ℕ) where
  abbrev at : ℕ → Option Heading → Option Stated
  at i it = option_map (λ (x : Heading). record { heading = x; head = head_at heads i }) it

  pub first_gone : (x : Unit {0}) → None ≡ slice_get headings first
      → Finds (differing_by source (stated_at headings heads first)
      (stated_at headings heads place)) (Ok x)
  first_gone x e =
      subst (λ (o : Option Heading). Finds
      (differing_by source (at first o) (stated_at headings heads place)) (Ok x)) e
      (record { told = refl })

  pub second_gone : (x : Unit {0}) (it : Heading) → Some it ≡ slice_get headings first
      → None ≡ slice_get headings place
      → Finds (differing_by source (stated_at headings heads first)
      (stated_at headings heads place)) (Ok x)
  second_gone x it e f =
      subst (λ (o : Option Heading). Finds
      (differing_by source (at first o) (stated_at headings heads place)) (Ok x)) e
      (subst (λ (o : Option Heading). Finds (differing_by source (at first (Some it)) (at place o))
      (Ok x)) f (record { told = refl }))

  -- there is nothing to compare with
  pub other_gone : (x : Unit {0}) (it : Stated) → None ≡ slice_get headings place
      → Finds (differing_by source (Some it) (stated_at headings heads place)) (Ok x)
  other_gone x it e =
      subst (λ (o : Option Heading). Finds (differing_by source (Some it) (at place o)) (Ok x)) e
      (record { told = refl })

  pub both_there : (x y : Heading) (hx hy : Option Head) (result : Result (Unit {0}) CheckFault)
      → Some x ≡ slice_get headings first → Some y ≡ slice_get headings place
      → hx ≡ head_at heads first → hy ≡ head_at heads place
      → Finds (differing source (record { heading = x; head = hx })
      (record { heading = y; head = hy })) result
      → Finds (differing_by source (stated_at headings heads first)
      (stated_at headings heads place)) result
  both_there x y hx hy result e f p q h =
      subst (λ (o : Option Heading). Finds
      (differing_by source (at first o) (stated_at headings heads place)) result) e
      (subst (λ (o : Option Heading). Finds (differing_by source (at first (Some x)) (at place o))
      result) f
      (subst (λ (k : Option Head). Finds
      (differing source (record { heading = x; head = k })
      (record { heading = y; head = head_at heads place })) result) p
      (subst (λ (k : Option Head). Finds
      (differing source (record { heading = x; head = hx }) (record { heading = y; head = k }))
      result) q h)))

module _ (source : Source) (heads : List (Option Head)) where
  abbrev all : List Stated
  all = stated source source.headings heads

  pub itself : (first i : ℕ) (x : Unit {0}) → first ≡ i
      → Finds (place_faults source all (Some first) i) (Ok x)
  itself first i x e =
      record {
        told = ap (λ (b : Bool). if b then [] else differing_at source all first i)
            (eq-eqb first i e);
      }

  apart_is : (first i : ℕ) (b : Bool) → nat_eq first i ≡ b → first ≢ i → b ≡ false
  apart_is first i true e d = absurd (d (eqb-true first i e))
  apart_is first i false e d = refl

  pub compared : (first i : ℕ) (result : Result (Unit {0}) CheckFault) → first ≢ i
      → Finds (differing_by source (stated_at source.headings heads first)
      (stated_at source.headings heads i)) result
      → Finds (place_faults source all (Some first) i) result
  compared first i result d h =
      subst (λ (b : Bool). Finds (if b then [] else differing_at source all first i) result)
      (sym (apart_is first i (nat_eq first i) refl d))
      (subst (λ (s : Option Stated). Finds (differing_by source s (slice_get all i)) result)
      (sym (stated_get source source.headings heads first))
      (subst (λ (s : Option Stated). Finds
      (differing_by source (stated_at source.headings heads first) s) result)
      (sym (stated_get source source.headings heads i)) h))

  pub numbered : (key : Key) (i n : ℕ) (first : Option ℕ) (result : Result (Unit {0}) CheckFault)
      → Some n ≡ number_of source.groups key
      → (HasNumber source.groups key
      → first ≡ position (belongs source.tags source.fallback key) source.headings)
      → Finds (place_faults source all first i) result
      → Finds (key_faults source all i (Some key)) result
  numbered key i n first result e f h =
      let known : HasNumber source.groups key =
      record {
        known = λ none. absurd
            (let no : ⊥ = (let t : Some n ≡ None = e ∙ none in cc) in no);
      } in
      subst (λ (o : Option ℕ). Finds (number_faults source all key i o) result) e
      (subst (λ (o : Option ℕ). Finds (place_faults source all o i) result) (f known) h)

  pub unnumbered : (key : Key) (i : ℕ) (x : Unit {0}) → None ≡ number_of source.groups key
      → Finds (key_faults source all i (Some key)) (Ok x)
  unnumbered key i x e =
      subst (λ (o : Option ℕ). Finds (number_faults source all key i o) (Ok x)) e
      (record { told = refl })

  -- ---- all of them

  pub whole_none : (x y : Unit {0}) → EachOf (own_faults source all) (length source.headings) (Ok x)
      → PairsOf (entry_faults source all) (length source.headings) (length source.groups) (Ok y)
      → all_heads source all source.groups ≡ []
  whole_none x y own entry = none_differs source heads own.told (λ i n a b. entry.told i n a b)

  pub whole_own : (fault : CheckFault)
      → EachOf (own_faults source all) (length source.headings) (Err fault)
      → Finds (all_heads source all source.groups) (Err fault)
  whole_own fault h = record { told = own_fails source heads h.told.0 fault h.told.2 }

  pub whole_by : (x : Unit {0}) (result : Result (Unit {0}) CheckFault)
      → EachOf (own_faults source all) (length source.headings) (Ok x)
      → PairsOf (entry_faults source all) (length source.headings) (length source.groups) result
      → Finds (all_heads source all source.groups) result
  whole_by x (Ok y) own entry = record { told = whole_none x y own entry }
  whole_by x (Err fault) own entry =
      record { told = entry_fails source heads entry.told.0 fault entry.told.1 entry.told.4 }

-- ---- one more

module _ (source : Source) (heads : List (Option Head)) where
  -- a heading more
  pub own_none : (i : ℕ) (it : Heading) (x : Unit {0}) → slice_get source.headings i ≡ Some it
      → Finds (heading_faults source (stated source source.headings heads) i (Some it)) (Ok x)
      → own_faults source (stated source source.headings heads) i ≡ []
  own_none i it x here h =
      ap (heading_faults source (stated source source.headings heads) i) here ∙ h.told

  pub own_told : (i : ℕ) (it : Heading) (fault : CheckFault) → i < length source.headings
      → slice_get source.headings i ≡ Some it
      → Finds (heading_faults source (stated source source.headings heads) i (Some it)) (Err fault)
      → EachOf (own_faults source (stated source source.headings heads)) (length source.headings)
      (Err fault)
  own_told i it fault lt here h = record {
    told = (
      i,
      lt,
      subst (λ (o : Option Heading). Fails
          (heading_faults source (stated source source.headings heads) i o) fault)
          (sym here) h.told,
    );
  }

  -- a function more
  pub group_none : (i n : ℕ) (group : Group) (x : Unit {0}) → slice_get source.groups n ≡ Some group
      → Finds (group_faults source (stated source source.headings heads) i (Some group)) (Ok x)
      → forward_faults source (stated source source.headings heads) i true n ≡ []
  group_none i n group x here h =
      ap (group_faults source (stated source source.headings heads) i) here ∙ h.told

  pub group_told : (i n : ℕ) (group : Group) (fault : CheckFault) → n < length source.groups
      → slice_get source.groups n ≡ Some group
      → Finds (group_faults source (stated source source.headings heads) i (Some group)) (Err fault)
      → EachOf (forward_faults source (stated source source.headings heads) i true)
      (length source.groups) (Err fault)
  group_told i n group fault lt here h = record {
    told = (
      n,
      lt,
      subst (λ (o : Option Group). Fails
          (group_faults source (stated source source.headings heads) i o) fault)
          (sym here) h.told,
    );
  }

  -- an entry function, and another
  pub group_known : (i : ℕ) (group : Group) (first : Option ℕ)
      (result : Result (Unit {0}) CheckFault) → is_enters group.key ≡ true
      → HasNumber source.groups group.key
      → (HasNumber source.groups group.key
      → first ≡ position (belongs source.tags source.fallback group.key) source.headings)
      → Finds (place_faults source (stated source source.headings heads) first i) result
      → Finds (group_faults source (stated source source.headings heads) i (Some group)) result
  group_known i group first result e known f h =
      subst (λ (b : Bool). Finds (if b
      then place_faults source (stated source source.headings heads)
      (position (belongs source.tags source.fallback group.key) source.headings) i
      else []) result)
      (sym e)
      (subst (λ (o : Option ℕ). Finds
      (place_faults source (stated source source.headings heads) o i) result) (f known) h)

  pub group_other : (i : ℕ) (group : Group) (x : Unit {0}) → is_enters group.key ≡ false
      → Finds (group_faults source (stated source source.headings heads) i (Some group)) (Ok x)
  group_other i group x e =
      subst (λ (b : Bool). Finds (if b
      then place_faults source (stated source source.headings heads)
      (position (belongs source.tags source.fallback group.key) source.headings) i else [])
      (Ok x))
      (sym e) (record { told = refl })
