-- What stands at a place of a list, for the steps of loops.
use Rattle.std.proofs.Common.{◌≡◌, ◌<◌, ◌≤◌, ℕ, zero, suc, List, [], ◌∷◌, map, length, get_or, Some}
use Rattle.std.proofs.Common.{refl, sym, ap, ◌∙◌, arith}
use Rattle.std.specs.Prelude.{slice_get}
use Rattle.std.proofs.lemmas.List.{length-map}

module _ {A : Type 0} where
  pub got_is : (xs : List A) (i : ℕ) (x : A) → slice_get xs i ≡ Some x
      → (i < length xs) × (x ≡ get_or xs i x)
  got_is [] i x h = absurd (let no : ⊥ = cc in no)
  got_is (y ∷ ys) zero x h = let same : x ≡ y = cc in (omega arith, same)
  got_is (y ∷ ys) (suc i) x h = let rest = got_is ys i x h in (omega (arith, rest.0), rest.1)

  pub some_at : (xs : List A) (i : ℕ) → i < length xs → (x : A) × (slice_get xs i ≡ Some x)
  some_at [] i h = absurd (omega (arith, h))
  some_at (y ∷ ys) zero h = (y, refl)
  some_at (y ∷ ys) (suc i) h = let less : i < length ys = omega (arith, h) in some_at ys i less

  pub one_at : (x y : A) → Some x ≡ Some y → x ≡ y
  one_at x y h = cc

module _ {A B : Type 0} (view : A → B) where
  pub viewed_here : (xs : List A) (i : ℕ) (x : A) → i < length xs → x ≡ get_or xs i x
      → slice_get (map view xs) i ≡ Some (view x)
  viewed_here [] i x lt is = absurd (omega (arith, lt))
  viewed_here (y ∷ ys) zero x lt is = ap (λ z. Some (view z)) (sym is)
  viewed_here (y ∷ ys) (suc i) x lt is =
      let less : i < length ys = omega (arith, lt) in viewed_here ys i x less is

  pub viewed_in : (items list : List A) (i : ℕ) (x : A) → list ≡ items → i < length list
      → x ≡ get_or list i x → slice_get (map view items) i ≡ Some (view x)
  viewed_in items list i x e lt is =
      ap (λ (xs : List A). slice_get (map view xs) i) (sym e) ∙ viewed_here list i x lt is

  -- what a loop over a list looks at
  pub seen_at : {items list : List A} {i : ℕ} {x : A} → list ≡ items → x ≡ get_or list i x
      → i < length list → slice_get (map view items) i ≡ Some (view x)
  seen_at {items} {list} {i} {x} e is lt = viewed_in items list i x e lt is

  -- at a place of the list
  pub seen_within : {items list : List A} {i : ℕ} {x : A} → list ≡ items → x ≡ get_or list i x
      → i < length items → slice_get (map view items) i ≡ Some (view x)
  seen_within {items} {list} {i} {x} e is lt =
      let same : length list ≡ length items = ap length e in
      viewed_in items list i x e (omega (arith, same, lt)) is

  pub within : (items : List A) (i : ℕ) → i < length items → i < length (map view items)
  within items i h =
      let e : length (map view items) ≡ length items = length-map items view in omega arith

  -- what stands at a place that a loop comes to
  pub some_seen : {items list : List A} (i : ℕ) → list ≡ items → i < length list
      → (x : B) × (slice_get (map view items) i ≡ Some x)
  some_seen {items} {list} i e lt =
      let same : length list ≡ length items = ap length e in
      some_at (map view items) i (within items i (omega (arith, same, lt)))

  pub past : (items list : List A) (i : ℕ) → list ≡ items → length list ≤ i
      → length (map view items) ≤ i
  past items list i e le =
      let same : length list ≡ length items = ap length e in
      let long : length (map view items) ≡ length items = length-map items view in
      omega arith
