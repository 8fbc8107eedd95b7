-- Two forwards of `entry` tell of all of them: a heading that equals both equals each whose head
-- stands.
use Rattle.std.proofs.Common.{◌≡◌, ◌<◌, ℕ, Bool, true, false, not, if◌then◌else◌, List, [], length}
use Rattle.std.proofs.Common.{Option, Some, None, option_map, refl, sym, ap, ap₂, subst, ◌∙◌}
use Rattle.std.specs.Prelude.{slice_get, position, nat_eq, is_some, Result, Ok, Err}
use Rattle.std.proofs.lemmas.Bool.{false≢true, eqb-true}
use Rattle.std.proofs.lemmas.Option.{slice_get_within}
use Rattle.pawn_tree.specs.declared.name.At.{At}
use Rattle.names_rules.specs.Verdict.{Fault}
use Rattle.pawn_verdict.specs.Answers.{Fails}
use Rattle.pawn_verdict.specs.declared.fault.CheckFault.{CheckFault}
use Rattle.types_rules.specs.declared.fault.TheConstants.{HEAD_DIFFERS}
use Rattle.types_rules.specs.Around.{Head}
use Rattle.types_rules.specs.SameHeads.{same_head}
use Rattle.types_rules.specs.Groups.{Group}
use Rattle.types_rules.specs.Headings.{Heading, belongs, is_enters}
use Rattle.types_rules.specs.Sources.{Source, Stated, stated, stated_tag}
use Rattle.types_rules.specs.Functions.{differs, fault_if}
use Rattle.check_functions.specs.Own.{enters_all}
use Rattle.check_functions.specs.Stated.{head_at}
use Rattle.check_functions.proofs.StatedLaws.{stated_get}
use Rattle.check_functions.specs.Differ.{stated_at, differing_by, differing_at, place_faults}
use Rattle.check_functions.specs.Differ.{group_faults, forward_faults, enters_at, entry_faults}
use Rattle.check_functions.specs.Differ.{EachOf, PairsOf}
use Rattle.check_functions.specs.EntryForwards.{is_forward, are_unlike, AreTold, TellOf, AtPlace}
use Rattle.check_functions.proofs.EqualLaws.{both, with_both, head_itself, head_alike}
use Rattle.check_functions.proofs.ForwardLaws.{told_all}

-- the head stands
abbrev stands_in : Option Stated → Bool
stands_in None = false
stands_in (Some it) = is_some it.head

forward_stands : (o : Option Stated) → is_forward o ≡ true → stands_in o ≡ true
forward_stands None e = e
forward_stands (Some it) e = (both (is_some it.head) (enters_all it.heading) e).0

passes_at : (o : Option Heading) (h : Option Head) → enters_at o ≡ true
    → stands_in (option_map (λ (it : Heading). record { heading = it; head = h }) o) ≡ true
    → is_forward (option_map (λ (it : Heading). record { heading = it; head = h }) o) ≡ true
passes_at None h e s = s
passes_at (Some it) h e s = with_both (is_some h) (enters_all it) s e

enters_by : (o : Option Heading) (h : Option Head)
    → is_forward (option_map (λ (it : Heading). record { heading = it; head = h }) o) ≡ true
    → enters_at o ≡ true
enters_by None h e = e
enters_by (Some it) h e = (both (is_some h) (enters_all it) e).1

not_not : (b : Bool) → not b ≡ false → b ≡ true
not_not true e = refl
not_not false e = absurd (false≢true (sym e))

module _ (source : Source) where
  -- ---- by heads

  gone_first : (x y : Stated) (h k : Option Head) → is_some h ≡ false
      → differs source x h y k ≡ false
  gone_first x y None k e = refl
  gone_first x y (Some h) k e = absurd (false≢true (sym e))

  gone_second : (x y : Stated) (h k : Option Head) → is_some k ≡ false
      → differs source x h y k ≡ false
  gone_second x y None k e = refl
  gone_second x y (Some h) None e = refl
  gone_second x y (Some h) (Some k) e = absurd (false≢true (sym e))

  same_itself : (x : Stated) (h : Option Head) → differs source x h x h ≡ false
  same_itself x None = refl
  same_itself x (Some h) = ap not (head_itself (stated_tag source x) h)

  same_alike : (x y z : Stated) (h k l : Option Head) → is_some h ≡ true → is_some k ≡ true
      → is_some l ≡ true
      → differs source x h y k ≡ false → differs source x h z l ≡ differs source y k z l
  same_alike x y z None k l e f g d = absurd (false≢true e)
  same_alike x y z (Some h) None l e f g d = absurd (false≢true f)
  same_alike x y z (Some h) (Some k) None e f g d = absurd (false≢true g)
  same_alike x y z (Some h) (Some k) (Some l) e f g d =
      ap not (head_alike (stated_tag source x) (stated_tag source y) (stated_tag source z) h k l
      (not_not (same_head (stated_tag source x) h (stated_tag source y) k) d))

  -- ---- where there are headings

  gone_left : (x y : Option Stated) → stands_in x ≡ false → are_unlike source x y ≡ false
  gone_left None y e = refl
  gone_left (Some x) None e = refl
  gone_left (Some x) (Some y) e = gone_first x y x.head y.head e

  gone_right : (x y : Option Stated) → stands_in y ≡ false → are_unlike source x y ≡ false
  gone_right None y e = refl
  gone_right (Some x) None e = refl
  gone_right (Some x) (Some y) e = gone_second x y x.head y.head e

  like_itself : (x : Option Stated) → are_unlike source x x ≡ false
  like_itself None = refl
  like_itself (Some x) = same_itself x x.head

  like_alike : (x y z : Option Stated) → stands_in x ≡ true → stands_in y ≡ true
      → stands_in z ≡ true
      → are_unlike source x y ≡ false → are_unlike source x z ≡ are_unlike source y z
  like_alike None y z e f g d = absurd (false≢true e)
  like_alike (Some x) None z e f g d = absurd (false≢true f)
  like_alike (Some x) (Some y) None e f g d = refl
  like_alike (Some x) (Some y) (Some z) e f g d = same_alike x y z x.head y.head z.head e f g d

  fault_none : (b : Bool) (at : At) → fault_if b HEAD_DIFFERS at ≡ [] → b ≡ false
  fault_none true at e = absurd (let no : ⊥ = cc in no)
  fault_none false at e = refl

  none_unlike : (x y : Option Stated) → differing_by source x y ≡ [] → are_unlike source x y ≡ false
  none_unlike None y e = refl
  none_unlike (Some x) None e = refl
  none_unlike (Some x) (Some y) e = fault_none (differs source x x.head y y.head) y.heading.at e

  unlike_none : (x y : Option Stated) → are_unlike source x y ≡ false → differing_by source x y ≡ []
  unlike_none None y e = refl
  unlike_none (Some x) None e = refl
  unlike_none (Some x) (Some y) e = ap (λ (b : Bool). fault_if b HEAD_DIFFERS y.heading.at) e

module _ (source : Source) (heads : List (Option Head)) where
  abbrev all : List Stated
  all = stated source source.headings heads

  abbrev at : ℕ → Option Stated
  at i = stated_at source.headings heads i

  here : (f i : ℕ) → differing_at source all f i ≡ differing_by source (at f) (at i)
  here f i =
      ap₂ (differing_by source) (stated_get source source.headings heads f)
      (stated_get source source.headings heads i)

  place_like : (f i : ℕ) → place_faults source all (Some f) i ≡ []
      → are_unlike source (at f) (at i) ≡ false
  place_like f i h = by (nat_eq f i) refl h
    where
      by : (b : Bool) → nat_eq f i ≡ b → (if b then [] else differing_at source all f i) ≡ []
          → are_unlike source (at f) (at i) ≡ false
      by true e k =
          subst (λ (n : ℕ). are_unlike source (at f) (at n) ≡ false) (eqb-true f i e)
          (like_itself source (at f))
      by false e k = none_unlike source (at f) (at i) (sym (here f i) ∙ k)

  like_place : (f i : ℕ) → are_unlike source (at f) (at i) ≡ false
      → place_faults source all (Some f) i ≡ []
  like_place f i h = by (nat_eq f i)
    where
      by : (b : Bool) → (if b then [] else differing_at source all f i) ≡ []
      by true = refl
      by false = here f i ∙ unlike_none source (at f) (at i) h

  module _ (count : ℕ) (first other : Option ℕ) (told : TellOf source heads count first other) where
    like_all : (f : ℕ) → ((w : ℕ) → first ≡ Some w → place_faults source all (Some f) w ≡ [])
        → ((v : ℕ) → other ≡ Some v → place_faults source all (Some f) v ≡ [])
        → (j : ℕ) → j < count → enters_at (slice_get source.headings j) ≡ true → (s : Bool)
        → stands_in (at j) ≡ s
        → are_unlike source (at f) (at j) ≡ false
    like_all f one two j lt enters false s = gone_right source (at f) (at j) s
    like_all f one two j lt enters true s =
        told_all (λ i. is_forward (at i)) (λ i k. are_unlike source (at i) (at k))
        (λ i. stands_in (at i))
        (λ i. forward_stands (at i)) (λ i k. gone_left source (at i) (at k))
        (λ i k l. like_alike source (at i) (at k) (at l))
        count first other told f
        (λ w e. place_like f w (one w e)) (λ v e. place_like f v (two v e)) j lt
        (passes_at (slice_get source.headings j) (head_at heads j) enters s)

    group_by : (b : Bool) (p : Option ℕ)
        → ((w : ℕ) → first ≡ Some w → (if b then place_faults source all p w else []) ≡ [])
        → ((v : ℕ) → other ≡ Some v → (if b then place_faults source all p v else []) ≡ [])
        → (j : ℕ) → j < count → enters_at (slice_get source.headings j) ≡ true
        → (if b then place_faults source all p j else []) ≡ []
    group_by false p one two j lt enters = refl
    group_by true None one two j lt enters = refl
    group_by true (Some f) one two j lt enters =
        like_place f j (like_all f one two j lt enters (stands_in (at j)) refl)

    group_all : (g : Option Group) → ((w : ℕ) → first ≡ Some w → group_faults source all w g ≡ [])
        → ((v : ℕ) → other ≡ Some v → group_faults source all v g ≡ [])
        → (j : ℕ) → j < count → enters_at (slice_get source.headings j) ≡ true
        → group_faults source all j g ≡ []
    group_all None one two j lt enters = refl
    group_all (Some group) one two j lt enters =
        group_by (is_enters group.key)
        (position (belongs source.tags source.fallback group.key) source.headings) one two j
        lt enters

    entry_all : ((w : ℕ) → first ≡ Some w → (n : ℕ) → n < length source.groups
        → forward_faults source all w true n ≡ [])
        → ((v : ℕ) → other ≡ Some v → (n : ℕ) → n < length source.groups
        → forward_faults source all v true n ≡ [])
        → (j n : ℕ) → j < count → n < length source.groups → entry_faults source all j n ≡ []
    entry_all one two j n lt less = by (enters_at (slice_get source.headings j)) refl
      where
        by : (b : Bool) → enters_at (slice_get source.headings j) ≡ b
            → forward_faults source all j b n ≡ []
        by false e = refl
        by true e =
            group_all (slice_get source.groups n) (λ w f. one w f n less)
            (λ v f. two v f n less) j lt e

    -- ---- what the two answers tell

    abbrev faults : ℕ → ℕ → List Fault
    faults i n = forward_faults source all i true n

    none_at : (place : Option ℕ) (x : Unit {0}) → AtPlace faults (length source.groups) place (Ok x)
        → (w : ℕ) → place ≡ Some w → (n : ℕ) → n < length source.groups
        → forward_faults source all w true n ≡ []
    none_at None x h w e = absurd (let no : ⊥ = cc in no)
    none_at (Some i) x h w e =
        subst (λ (k : ℕ). (n : ℕ) → n < length source.groups
        → forward_faults source all k true n ≡ [])
        (let same : i ≡ w = cc in same) h.told

    forward_here : (o : Option Heading) (h : Option Head) (i : ℕ) → slice_get source.headings i ≡ o
        → is_forward (option_map (λ (it : Heading). record { heading = it; head = h }) o) ≡ true
        → i < length source.headings
    forward_here None h i e p = absurd (false≢true p)
    forward_here (Some it) h i e p = slice_get_within source.headings i it e

    one_at : (place : Option ℕ) (fault : CheckFault)
        → ((w : ℕ) → place ≡ Some w → is_forward (at w) ≡ true)
        → AtPlace faults (length source.groups) place (Err fault)
        → PairsOf (entry_faults source all) (length source.headings) (length source.groups)
        (Err fault)
    one_at None fault passes h = absurd h
    one_at (Some i) fault passes h = record {
      told = (
        i,
        h.told.0,
        forward_here (slice_get source.headings i) (head_at heads i) i refl (passes i refl),
        h.told.1,
        subst (λ (b : Bool). Fails (forward_faults source all i b h.told.0) fault)
            (sym (enters_by (slice_get source.headings i) (head_at heads i) (passes i refl)))
            h.told.2,
      );
    }

    pub entry_first : (fault : CheckFault) → AtPlace faults (length source.groups) first (Err fault)
        → PairsOf (entry_faults source all) (length source.headings) (length source.groups)
        (Err fault)
    entry_first fault h = one_at first fault told.first_is h

    pub entry_both : (x : Unit {0}) (result : Result (Unit {0}) CheckFault)
        → length source.headings ≡ count
        → AtPlace faults (length source.groups) first (Ok x)
        → AtPlace faults (length source.groups) other result
        → PairsOf (entry_faults source all) (length source.headings) (length source.groups) result
    entry_both x (Ok y) size h k = record {
      told = λ i n lt less.
          entry_all (none_at first x h) (none_at other y k) i n
          (subst (λ (m : ℕ). i < m) size lt) less;
    }
    entry_both x (Err fault) size h k = one_at other fault (λ v e. (told.other_is v e).0) k
