-- The functions of a source have distinct keys; user operators one by one.
use Rattle.std.proofs.Common.{◌≡◌, ◌≢◌, ◌⊎◌, ◌+◌, ℕ, zero, suc, Bool, true, false, cond, nat_lt}
use Rattle.std.proofs.Common.{if◌then◌else◌, List, [], ◌∷◌, ◌++◌, length, drop, Option, Some, None}
use Rattle.std.proofs.Common.{option_map, is_some, inl, inr, refl, sym, ap, ap₂, subst, ◌∙◌, arith}
use Rattle.std.proofs.Common.{append_assoc}
use Rattle.std.specs.Prelude.{slice_get}
use Rattle.std.specs.Option.{option_or}
use Rattle.std.specs.Map.{lookup}
use Rattle.std.proofs.lemmas.Bool.{false≢true}
use Rattle.std.proofs.lemmas.Bool.Decides.{nat_tests}
use Rattle.pawn_tags.specs.declared.op.Signature.{Signature}
use Rattle.pawn_tags.specs.Overloads.{Overloads, is_for, function_of, with_overload}
use Rattle.pawn_tags.proofs.OverloadLaws.{only_for, itself_for}
use Rattle.types_rules.specs.Keys.{Key, Named, Operates, Enters, Misshapen, same_key}
use Rattle.types_rules.specs.Groups.{Group, Written, number_of, with_body, body_key, grouped}
use Rattle.types_rules.specs.Sources.{Source, operators_from, operator_of}
use Rattle.check_source.specs.Update.{updated, with_first}
use Rattle.check_source.proofs.PlaceLaws.{place, place_is, position_push, first_new, first_at}
use Rattle.check_source.proofs.TableLaws.{equal_keys}
use Rattle.check_functions.specs.Distinct.{IsDistinct, below, defined_by}
use Rattle.check_functions.proofs.OwnLaws.{keyed_at, same_some}

abbrev has_key : Key → Group → Bool
has_key key group = same_key group.key key

-- ---- a body more

first_body : (all : List Group) (key : Key) (it : Written)
    → with_body all key it ≡ with_first (has_key key)
    (λ (g : Group). record g { bodies = g.bodies ++ it ∷ [] })
    (record { key = key; bodies = it ∷ [] }) all
first_body [] key it = refl
first_body (group ∷ more) key it =
    ap (λ (rest : List Group). if same_key group.key key
    then record group { bodies = group.bodies ++ it ∷ [] } ∷ more else group ∷ rest)
    (first_body more key it)

module _ (change : Group → Group) (keeps : (g : Group) → (change g).key ≡ g.key) where
  number_by : (p : Bool) (x y : Option ℕ) → x ≡ y
      → (if p then Some 0 else option_map suc x) ≡ (if p then Some 0 else option_map suc y)
  number_by p x y e = ap (λ (r : Option ℕ). if p then Some 0 else option_map suc r) e

  place_updated : (xs : List Group) (i : ℕ) (key : Key)
      → place (has_key key) (updated xs i change) ≡ place (has_key key) xs
  place_updated [] i key = refl
  place_updated (x ∷ xs) zero key =
      ap (λ (k : Key). if same_key k key then Some 0 else option_map suc (place (has_key key) xs))
      (keeps x)
  place_updated (x ∷ xs) (suc i) key = number_by (same_key x.key key) _ _ (place_updated xs i key)

  number_updated : (xs : List Group) (i : ℕ) (key : Key)
      → number_of (updated xs i change) key ≡ number_of xs key
  number_updated xs i key =
      place_is (has_key key) (updated xs i change) ∙ place_updated xs i key
      ∙ sym (place_is (has_key key) xs)

  was : (xs : List Group) (i j : ℕ) (g : Group) → slice_get (updated xs i change) j ≡ Some g
      → (old : Group) × (slice_get xs j ≡ Some old) × (g.key ≡ old.key)
  was [] i j g h = absurd (let no : ⊥ = cc in no)
  was (x ∷ xs) zero zero g h =
      (x, refl, ap (λ (y : Group). y.key) (sym (same_some (change x) g h)) ∙ keeps x)
  was (x ∷ xs) zero (suc j) g h = (g, h, refl)
  was (x ∷ xs) (suc i) zero g h = (x, refl, ap (λ (y : Group). y.key) (sym (same_some x g h)))
  was (x ∷ xs) (suc i) (suc j) g h = was xs i j g h

  distinct_updated : (xs : List Group) (i : ℕ) → IsDistinct xs → IsDistinct (updated xs i change)
  distinct_updated xs i h = record {
    number = λ j g at same.
        let old = was xs i j g at in
        number_updated xs i g.key ∙ ap (number_of xs) old.2
        ∙ h.number j old.0 old.1 (ap (λ (k : Key). same_key k k) (sym old.2) ∙ same);
  }

push_get : (xs : List Group) (x : Group) (j : ℕ) (g : Group) → slice_get (xs ++ x ∷ []) j ≡ Some g
    → ((slice_get xs j ≡ Some g) ⊎ ((j ≡ length xs) × (g ≡ x)))
push_get [] x zero g h = inr (refl, sym (same_some x g h))
push_get [] x (suc j) g h = absurd (let no : ⊥ = cc in no)
push_get (y ∷ ys) x zero g h = inl h
push_get (y ∷ ys) x (suc j) g h =
    elim (push_get ys x j g h) [ inl e ↦ inl e | inr e ↦ inr (ap suc e.0, e.1) ]

distinct_push : (xs : List Group) (x : Group) → IsDistinct xs → number_of xs x.key ≡ None
    → IsDistinct (xs ++ x ∷ [])
distinct_push xs x h none = record {
  number = λ j g at same.
      position_push (has_key g.key) xs x
      ∙ elim (push_get xs x j g at) [
        | inl e ↦ ap (λ (r : Option ℕ). option_or r
            (if same_key x.key g.key then Some (length xs) else None)) (h.number j g e same)
        | inr e ↦ ap₂ (λ (r : Option ℕ) (b : Bool). option_or r
            (if b then Some (length xs) else None))
            (ap (λ (y : Group). number_of xs y.key) e.1 ∙ none)
            (ap (λ (y : Group). same_key y.key g.key) (sym e.1) ∙ same)
            ∙ ap Some (sym e.0)
      ];
}

distinct_by : (groups : List Group) (key : Key) (it : Written) (number : Option ℕ)
    → number_of groups key ≡ number → IsDistinct groups → IsDistinct (with_body groups key it)
distinct_by groups key it None n h =
    let e = first_body groups key it
    ∙ first_new (has_key key) (λ (g : Group). record g { bodies = g.bodies ++ it ∷ [] })
    (record { key = key; bodies = it ∷ [] }) groups
    (sym (place_is (has_key key) groups) ∙ n) in
    rw e (distinct_push groups (record { key = key; bodies = it ∷ [] }) h n)
distinct_by groups key it (Some i) n h =
    let e = first_body groups key it
    ∙ first_at (has_key key) (λ (g : Group). record g { bodies = g.bodies ++ it ∷ [] })
    (record { key = key; bodies = it ∷ [] }) groups i
    (sym (place_is (has_key key) groups) ∙ n) in
    rw e (distinct_updated (λ (g : Group). record g { bodies = g.bodies ++ it ∷ [] })
    (λ g. refl) groups i h)

pub distinct_grouped : (names : List (List ℕ)) (fallback : List ℕ) (groups : List Group)
    (bodies : List Written) → IsDistinct groups → IsDistinct (grouped names fallback groups bodies)
unfolding grouped
distinct_grouped names fallback groups [] h = h
distinct_grouped names fallback groups (it ∷ more) h =
    distinct_grouped names fallback (with_body groups (body_key names fallback it) it) more
    (distinct_by groups (body_key names fallback it) it
    (number_of groups (body_key names fallback it)) refl h)

pub none_distinct : IsDistinct []
none_distinct = record { number = λ i g at same. absurd (let no : ⊥ = cc in no) }

-- ---- user operators

-- the operators so far are those of the functions so far
pub record AreOperators (groups : List Group) (i : ℕ) (operators : Overloads) : Type 0 where
  pub known : (it : Signature) → function_of operators it.op it.left it.right
      ≡ below i (number_of groups (Operates it))

not_below : (i : ℕ) → nat_lt i i ≡ false
not_below i = grind (arith, nat_tests)

is_below : (i : ℕ) → nat_lt i (i + 1) ≡ true
is_below i = grind (arith, nat_tests)

below_more : (i n : ℕ) → n ≢ i → nat_lt n i ≡ nat_lt n (i + 1)
below_more i n h = grind (arith, nat_tests)

below_same : (i : ℕ) (number : Option ℕ) → (number ≡ Some i → ⊥)
    → below i number ≡ below (i + 1) number
below_same i None h = refl
below_same i (Some n) h =
    let apart : n ≢ i = λ e. h (ap Some e) in
    ap (λ (b : Bool). if b then Some n else None) (below_more i n apart)

or_none : (x : Option ℕ) → option_or x None ≡ x
or_none None = refl
or_none (Some n) = refl

looked_push : (p : Signature → Bool) (xs : Overloads) (key : Signature) (n : ℕ)
    → lookup p (xs ++ (key, n) ∷ []) ≡ option_or (lookup p xs) (if p key then Some n else None)
looked_push p [] key n = refl
looked_push p (x ∷ xs) key n = by (p x.0) (looked_push p xs key n)
  where
    by : (b : Bool) → lookup p (xs ++ (key, n) ∷ [])
        ≡ option_or (lookup p xs) (if p key then Some n else None)
        → cond b (Some x.1) (lookup p (xs ++ (key, n) ∷ []))
        ≡ option_or (cond b (Some x.1) (lookup p xs)) (if p key then Some n else None)
    by true h = refl
    by false h = h

module _ (source : Source) (groups : List Group) (i : ℕ) (group : Group)
    (here : slice_get groups i ≡ Some group) (distinct : IsDistinct groups) where
  -- the group at the number
  at_number : (key : Key) → number_of groups key ≡ Some i → group.key ≡ key
  at_number key h =
      let at = keyed_at groups key i h in
      let same : at.0 ≡ group = same_some at.0 group (sym at.1 ∙ here) in
      ap (λ (g : Group). g.key) (sym same) ∙ equal_keys at.0.key key at.2

  pub no_operator : (operators : Overloads) → ((it : Signature) → group.key ≡ Operates it → ⊥)
      → AreOperators groups i operators → AreOperators groups (i + 1) operators
  no_operator operators other h = record {
    known =
        λ it. h.known it ∙ below_same i (number_of groups (Operates it))
        (λ e. other it (at_number (Operates it) e));
  }

  own_number : (it : Signature) → group.key ≡ Operates it → number_of groups (Operates it) ≡ Some i
  own_number it k =
      ap (number_of groups) (sym k)
      ∙ distinct.number i group here
      (ap (λ (x : Key). same_key x x) k ∙ itself_for it.op it.left it.right)

  pub is_new : (operators : Overloads) (it : Signature) → group.key ≡ Operates it
      → AreOperators groups i operators
      → function_of operators it.op it.left it.right ≡ None
  is_new operators it k h =
      h.known it ∙ ap (below i) (own_number it k)
      ∙ ap (λ (b : Bool). if b then Some i else None) (not_below i)

  operator_by : (operators : Overloads) (it other : Signature) (b : Bool) → group.key ≡ Operates it
      → AreOperators groups i operators
      → is_for other.op other.left other.right it ≡ b
      → option_or (function_of operators other.op other.left other.right)
      (if b then Some i else None) ≡ below (i + 1) (number_of groups (Operates other))
  operator_by operators it other true k h e =
      let same : other ≡ it = only_for other.op other.left other.right it e in
      ap (λ (s : Signature). option_or (function_of operators s.op s.left s.right) (Some i)) same
      ∙ ap (λ (r : Option ℕ). option_or r (Some i)) (is_new operators it k h)
      ∙ sym (ap (λ (s : Signature). below (i + 1) (number_of groups (Operates s))) same
      ∙ ap (below (i + 1)) (own_number it k)
      ∙ ap (λ (b : Bool). if b then Some i else None) (is_below i))
  operator_by operators it other false k h e =
      or_none (function_of operators other.op other.left other.right) ∙ h.known other
      ∙ below_same i (number_of groups (Operates other)) (λ n.
      let same : Operates it ≡ Operates other = sym k ∙ at_number (Operates other) n in
      let one : it ≡ other = cc in
      false≢true (sym e ∙ ap (is_for other.op other.left other.right) one
      ∙ itself_for other.op other.left other.right))

  pub one_operator : (operators now : Overloads) (it : Signature) → group.key ≡ Operates it
      → AreOperators groups i operators
      → now ≡ operators ++ (it, i) ∷ [] → AreOperators groups (i + 1) now
  one_operator operators now it k h e = record {
    known = λ other.
        ap (λ (o : Overloads). function_of o other.op other.left other.right) e
        ∙ looked_push (is_for other.op other.left other.right) operators it i
        ∙ operator_by operators it other (is_for other.op other.left other.right it) k h refl;
  }

pub defined_new : (operators now : Overloads) (it : Signature) (n : ℕ)
    → function_of operators it.op it.left it.right ≡ None
    → now ≡ with_overload operators it.op it.left it.right n → now ≡ operators ++ (it, n) ∷ []
defined_new operators now it n none e =
    e ∙ ap (λ (r : Option ℕ). if is_some r then operators else operators ++ (it, n) ∷ []) none

pub operators_more : (source : Source) (groups : List Group) (i : ℕ) (group : Group)
    (old now whole : Overloads)
    → old ++ operators_from source i (drop i groups) ≡ whole → slice_get groups i ≡ Some group
    → now ≡ old ++ operator_of source i group.key
    → now ++ operators_from source (i + 1) (drop (i + 1) groups) ≡ whole
unfolding operators_from
operators_more source groups i group old now whole h here e =
    let rest : Overloads = operators_from source (i + 1) (drop (i + 1) groups) in
    ap (λ (n : Overloads). n ++ rest) e ∙ append_assoc old (operator_of source i group.key) rest
    ∙ ap (λ (gs : List Group). old ++ operators_from source i gs)
    (sym (cut groups i group here)) ∙ h
  where
    cut : (gs : List Group) (k : ℕ) (g : Group) → slice_get gs k ≡ Some g
        → drop k gs ≡ g ∷ drop (k + 1) gs
    cut gs k g at =
        let next : suc k ≡ k + 1 = omega arith in
        dropped gs k g at ∙ ap (λ (n : ℕ). g ∷ drop n gs) next
      where
        dropped : (xs : List Group) (n : ℕ) (x : Group) → slice_get xs n ≡ Some x
            → drop n xs ≡ x ∷ drop (suc n) xs
        dropped [] n x a = absurd (let no : ⊥ = cc in no)
        dropped (y ∷ ys) zero x a = ap (λ (z : Group). z ∷ ys) (same_some y x a)
        dropped (y ∷ ys) (suc n) x a = dropped ys n x a

append_none : (xs : Overloads) → xs ≡ xs ++ []
append_none [] = refl
append_none (x ∷ xs) = ap (λ (r : Overloads). x ∷ r) (append_none xs)

none_below : (number : Option ℕ) → None ≡ below 0 number
none_below None = refl
none_below (Some n) =
    let no : nat_lt n 0 ≡ false = grind (arith, nat_tests) in
    ap (λ (b : Bool). if b then Some n else None) (sym no)

pub operators_begin : (groups : List Group) → AreOperators groups 0 []
operators_begin groups = record { known = λ it. none_below (number_of groups (Operates it)) }

-- a function more, by its key
pub define_step : (source : Source) (groups : List Group) (i : ℕ) (group : Group)
    (operators now : Overloads) (key : Key) → slice_get groups i ≡ Some group → IsDistinct groups
    → group.key ≡ key → AreOperators groups i operators → now ≡ defined_by operators i key
    → (now ≡ operators ++ operator_of source i group.key) × AreOperators groups (i + 1) now
define_step source groups i group operators now (Operates it) here distinct k h e =
    let added =
    defined_new operators now it i
    (is_new source groups i group here distinct operators it k h) e in (
      added ∙ ap (λ (x : Key). operators ++ operator_of source i x) (sym k),
      one_operator source groups i group here distinct operators now it k h added,
    )
define_step source groups i group operators now (Named name) here distinct k h e = (
  e ∙ append_none operators ∙ ap (λ (x : Key). operators ++ operator_of source i x) (sym k),
  rw e (no_operator source groups i group here distinct operators
      (λ it same. let no : ⊥ = (let two : Named name ≡ Operates it = sym k ∙ same in cc) in no) h),
)
define_step source groups i group operators now (Enters name) here distinct k h e = (
  e ∙ append_none operators ∙ ap (λ (x : Key). operators ++ operator_of source i x) (sym k),
  rw e (no_operator source groups i group here distinct operators
      (λ it same. let no : ⊥ = (let two : Enters name ≡ Operates it = sym k ∙ same in cc) in no) h),
)
define_step source groups i group operators now Misshapen here distinct k h e = (
  e ∙ append_none operators ∙ ap (λ (x : Key). operators ++ operator_of source i x) (sym k),
  rw e (no_operator source groups i group here distinct operators
      (λ it same. let no : ⊥ = (let two : Misshapen ≡ Operates it = sym k ∙ same in cc) in no) h),
)

pub distinct_of : (groups : List Group) (names : List (List ℕ)) (fallback : List ℕ)
    (bodies : List Written) → groups ≡ grouped names fallback [] bodies → IsDistinct groups
distinct_of groups names fallback bodies e =
    subst IsDistinct (sym e) (distinct_grouped names fallback [] bodies none_distinct)
