-- Places in lists: which element is the first that passes a test, and what changes where it is
-- changed.
use Rattle.std.proofs.Common.{◌≡◌, ◌+◌, ℕ, zero, suc, Bool, true, false, not, cond, nat_lt, ◌||◌}
use Rattle.std.proofs.Common.{if◌then◌else◌, List, [], ◌∷◌, ◌++◌, map, length, get_or, set}
use Rattle.std.proofs.Common.{position, Option, Some, None, option_map, refl, sym, ap, ap₂, ◌∙◌}
use Rattle.std.proofs.Common.{arith}
use Rattle.std.specs.List.{list_any, position_or_len}
use Rattle.std.specs.Option.{option_or}
use Rattle.std.proofs.lemmas.Bool.{false≢true}
use Rattle.std.proofs.lemmas.Bool.Decides.{nat_tests}
use Rattle.std.proofs.lemmas.Option.{same_Some}
use Rattle.check_source.specs.Update.{updated, with_first}

less_more : (n l : ℕ) → nat_lt (1 + n) (suc l) ≡ nat_lt n l
less_more n l = grind (arith, nat_tests)

less_first : (l : ℕ) → nat_lt 0 (suc l) ≡ true
less_first l = grind (arith, nat_tests)

behind : (b : Bool) (n : ℕ) → cond b (Some (1 + n)) None ≡ option_map suc (cond b (Some n) None)
behind true n = let e : 1 + n ≡ suc n = omega arith in ap Some e
behind false n = refl

by_first : (b : Bool) (n l : ℕ)
    → cond (nat_lt (cond (not b) (1 + n) 0) (suc l)) (Some (cond (not b) (1 + n) 0)) None
    ≡ (if b then Some 0 else option_map suc (cond (nat_lt n l) (Some n) None))
by_first true n l = ap (λ (t : Bool). cond t (Some 0) None) (less_first l)
by_first false n l =
    ap (λ (t : Bool). cond t (Some (1 + n)) None) (less_more n l) ∙ behind (nat_lt n l) n

-- ---- one more at the end

mapped : (old : Option ℕ) (b : Bool) (n : ℕ)
    → option_map suc (option_or old (if b then Some n else None))
    ≡ option_or (option_map suc old) (if b then Some (suc n) else None)
mapped (Some x) b n = refl
mapped None true n = refl
mapped None false n = refl

by_old : (b last : Bool) (old new : Option ℕ) (n : ℕ)
    → new ≡ option_or old (if last then Some n else None)
    → (if b then Some 0 else option_map suc new)
    ≡ option_or (if b then Some 0 else option_map suc old) (if last then Some (suc n) else None)
by_old true last old new n h = refl
by_old false last old new n h = ap (option_map suc) h ∙ mapped old last n

-- ---- where none passes

never_some : (x : Option ℕ) → option_map suc x ≡ None → x ≡ None
never_some None h = refl
never_some (Some n) h = absurd (let no : ⊥ = cc in no)

none_by : (b : Bool) (rest : Option ℕ) → (if b then Some 0 else option_map suc rest) ≡ None
    → (b ≡ false) × (rest ≡ None)
none_by true rest h = absurd (let no : ⊥ = cc in no)
none_by false rest h = (refl, never_some rest h)

module _ {A : Type 0} where
  -- the place of the first that passes, by recursion
  abbrev pub place : (A → Bool) → List A → Option ℕ
  place p [] = None
  place p (x ∷ xs) = if p x then Some 0 else option_map suc (place p xs)

  pub place_is : (p : A → Bool) (xs : List A) → position p xs ≡ place p xs
  place_is p [] = refl
  place_is p (x ∷ xs) =
      by_first (p x) (position_or_len p xs) (length xs)
      ∙ ap (λ (r : Option ℕ). if p x then Some 0 else option_map suc r) (place_is p xs)

  pub place_push : (p : A → Bool) (xs : List A) (y : A)
      → place p (xs ++ y ∷ []) ≡ option_or (place p xs) (if p y then Some (length xs) else None)
  place_push p [] y = refl
  place_push p (x ∷ xs) y =
      by_old (p x) (p y) (place p xs) (place p (xs ++ y ∷ [])) (length xs) (place_push p xs y)

  pub position_push : (p : A → Bool) (xs : List A) (y : A)
      → position p (xs ++ y ∷ []) ≡ option_or (position p xs)
      (if p y then Some (length xs) else None)
  position_push p xs y =
      place_is p (xs ++ y ∷ []) ∙ place_push p xs y
      ∙ ap (λ (r : Option ℕ). option_or r (if p y then Some (length xs) else None))
      (sym (place_is p xs))

  pub none_passes : (p : A → Bool) (xs : List A) → place p xs ≡ None → list_any p xs ≡ false
  none_passes p [] h = refl
  none_passes p (x ∷ xs) h =
      let e = none_by (p x) (place p xs) h in
      ap (λ b. b || list_any p xs) e.0 ∙ none_passes p xs e.1

  -- ---- the first that passes

  module _ (p : A → Bool) (change : A → A) (new : A) where
    at_none : (b : Bool) (x : A) (xs rest : List A) → b ≡ false → rest ≡ xs ++ new ∷ []
        → (if b then change x ∷ xs else x ∷ rest) ≡ x ∷ (xs ++ new ∷ [])
    at_none true x xs rest b h = absurd (false≢true (sym b))
    at_none false x xs rest b h = ap (λ r. x ∷ r) h

    pub first_new : (xs : List A) → place p xs ≡ None → with_first p change new xs ≡ xs ++ new ∷ []
    first_new [] h = refl
    first_new (x ∷ xs) h =
        let e = none_by (p x) (place p xs) h in
        at_none (p x) x xs (with_first p change new xs) e.0 (first_new xs e.1)

    at_some : (b : Bool) (x : A) (xs : List A) (rest : Option ℕ) (i : ℕ)
        → (if b then Some 0 else option_map suc rest) ≡ Some i
        → ((j : ℕ) → rest ≡ Some j → with_first p change new xs ≡ updated xs j change)
        → (if b then change x ∷ xs else x ∷ with_first p change new xs) ≡ updated (x ∷ xs) i change
    at_some true x xs rest zero h more = refl
    at_some true x xs rest (suc i) h more = absurd (let no : ⊥ = cc in no)
    at_some false x xs None i h more = absurd (let no : ⊥ = cc in no)
    at_some false x xs (Some j) zero h more = absurd (let no : ⊥ = cc in no)
    at_some false x xs (Some j) (suc i) h more =
        let s : suc j ≡ suc i = same_Some (suc j) (suc i) h in
        let e : j ≡ i = omega arith in
        ap (λ r. x ∷ r) (more i (ap Some e))

    pub first_at : (xs : List A) (i : ℕ) → place p xs ≡ Some i
        → with_first p change new xs ≡ updated xs i change
    first_at [] i h = absurd (let no : ⊥ = cc in no)
    first_at (x ∷ xs) i h = at_some (p x) x xs (place p xs) i h (first_at xs)

  -- ---- changes

  pub set_updates : (xs : List A) (i : ℕ) (x y : A) (change : A → A) → x ≡ get_or xs i x
      → y ≡ change x
      → set xs i y ≡ updated xs i change
  set_updates [] i x y change is to = refl
  set_updates (z ∷ zs) zero x y change is to = ap (λ w. w ∷ zs) (to ∙ ap change is)
  set_updates (z ∷ zs) (suc i) x y change is to =
      ap (λ w. z ∷ w) (set_updates zs i x y change is to)

  pub length_updated : (xs : List A) (i : ℕ) (change : A → A)
      → length (updated xs i change) ≡ length xs
  length_updated [] i change = refl
  length_updated (x ∷ xs) zero change = refl
  length_updated (x ∷ xs) (suc i) change = ap suc (length_updated xs i change)

  pub same_places : (p q : A → Bool) (xs : List A) → ((x : A) → p x ≡ q x) → place p xs ≡ place q xs
  same_places p q [] h = refl
  same_places p q (x ∷ xs) h =
      ap₂ (λ (b : Bool) (r : Option ℕ). if b then Some 0 else option_map suc r) (h x)
      (same_places p q xs h)

module _ {A B : Type 0} (f : A → B) where
  pub map_updated : (xs : List A) (i : ℕ) (change : A → A) (same : B → B)
      → ((x : A) → f (change x) ≡ same (f x))
      → map f (updated xs i change) ≡ updated (map f xs) i same
  map_updated [] i change same h = refl
  map_updated (x ∷ xs) zero change same h = ap (λ w. w ∷ map f xs) (h x)
  map_updated (x ∷ xs) (suc i) change same h = ap (λ w. f x ∷ w) (map_updated xs i change same h)

  -- what a change of one keeps
  pub map_set : (xs : List A) (i : ℕ) (x y : A) → x ≡ get_or xs i x → f y ≡ f x
      → map f (set xs i y) ≡ map f xs
  map_set [] i x y is h = refl
  map_set (z ∷ zs) zero x y is h = ap (λ w. w ∷ map f zs) (h ∙ ap f is)
  map_set (z ∷ zs) (suc i) x y is h = ap (λ w. f z ∷ w) (map_set zs i x y is h)

  pub place_map : (p : B → Bool) (xs : List A) → place p (map f xs) ≡ place (λ x. p (f x)) xs
  place_map p [] = refl
  place_map p (x ∷ xs) =
      ap (λ (r : Option ℕ). if p (f x) then Some 0 else option_map suc r) (place_map p xs)
