-- Each list of records has its order by names, so a file that can be written once its publics are
-- sorted has that order, and sizes that don't depend on it.
use Rattle.std.proofs.Common.{◌≡◌, ◌+◌, ◌<◌, ℕ, zero, suc, Bool, true, false, not, cond, List, []}
use Rattle.std.proofs.Common.{◌∷◌, length, get_or, refl, sym, ap, subst, ◌∙◌, arith}
use Rattle.std.specs.List.{filter}
use Rattle.std.specs.List.Sorted.{IsPermutation, IsSortedBy, IsStableBy, ties}
use Rattle.std.specs.Cmp.{IsStrictWeakOrder}
use Rattle.std.specs.Cmp.Lexicographic.{slice_cmp}
use Rattle.std.specs.Ordering.{is_lt, nat_cmp}
use Rattle.std.proofs.lemmas.Bool.{and_parts, not-true, true≢false}
use Rattle.std.proofs.lemmas.Cmp.{nat_list_cmp_total}
use Rattle.std.proofs.lemmas.List.Sorted.{ranks_by, IsPermutation-refl, IsPermutation-cons}
use Rattle.std.proofs.lemmas.List.Sorted.{IsPermutation-trans, IsPermutation-middle}
use Rattle.amx_ops.specs.declared.amx.Record.{Record}
use Rattle.amx_format.specs.Sorts.{Sorts}

-- ---- by any order

module _ {X : Type 0} (lt : X → X → Bool) (order : IsStrictWeakOrder lt) where
  -- an element before the first that isn't less
  abbrev put : X → List X → List X
  put x [] = x ∷ []
  put x (y ∷ ys) = cond (lt y x) (y ∷ put x ys) (x ∷ y ∷ ys)

  -- all of them, from the last
  abbrev pub in_order : List X → List X
  in_order [] = []
  in_order (x ∷ xs) = put x (in_order xs)

  -- none is less than the one before it, from one on
  abbrev Rises : X → List X → Type 0
  Rises x [] = Unit {0}
  Rises x (y ∷ ys) = (lt y x ≡ false) × Rises y ys

  abbrev RisesAll : List X → Type 0
  RisesAll [] = Unit {0}
  RisesAll (x ∷ xs) = Rises x xs

  put_rises_by : (w x y : X) (ys : List X) (b : Bool) → lt y x ≡ b → lt x w ≡ false
      → Rises w (y ∷ ys) → (lt x y ≡ false → Rises y (put x ys))
      → Rises w (cond b (y ∷ put x ys) (x ∷ y ∷ ys))
  put_rises_by w x y ys true e h r f = (r.0, f (order.one_way y x e))
  put_rises_by w x y ys false e h r f = (h, (e, r.1))

  put_rises : (w x : X) (ys : List X) → lt x w ≡ false → Rises w ys → Rises w (put x ys)
  put_rises w x [] h r = (h, tt)
  put_rises w x (y ∷ ys) h r =
      put_rises_by w x y ys (lt y x) refl h r (λ k. put_rises y x ys k r.1)

  put_first_by : (x y : X) (ys : List X) (b : Bool) → lt y x ≡ b → Rises y ys
      → RisesAll (cond b (y ∷ put x ys) (x ∷ y ∷ ys))
  put_first_by x y ys true e r = put_rises y x ys (order.one_way y x e) r
  put_first_by x y ys false e r = (e, r)

  put_all : (x : X) (ys : List X) → RisesAll ys → RisesAll (put x ys)
  put_all x [] r = tt
  put_all x (y ∷ ys) r = put_first_by x y ys (lt y x) refl r

  in_order_rises : (xs : List X) → RisesAll (in_order xs)
  in_order_rises [] = tt
  in_order_rises (x ∷ xs) = put_all x (in_order xs) (in_order_rises xs)

  rises_at : (x : X) (xs : List X) → Rises x xs → (k : ℕ) (d : X) → k < length xs
      → lt (get_or xs k d) (get_or (x ∷ xs) k d) ≡ false
  rises_at x [] r k d h = absurd (omega (arith, h))
  rises_at x (y ∷ ys) r zero d h = r.0
  rises_at x (y ∷ ys) r (suc k) d h = rises_at y ys r.1 k d (omega (arith, h))

  sorted_from : (xs : List X) → RisesAll xs → IsSortedBy lt xs
  sorted_from [] r k d low high = absurd (omega (arith, high))
  sorted_from (x ∷ xs) r k d low high =
      let next : suc k ≡ k + 1 = omega arith in
      subst (λ n. lt (get_or (x ∷ xs) n d) (get_or (x ∷ xs) k d) ≡ false) next
      (rises_at x xs r k d (omega (arith, high)))

  -- ---- the same elements

  put_moves_by : (x y : X) (ys : List X) (b : Bool) → IsPermutation (x ∷ ys) (put x ys)
      → IsPermutation (x ∷ y ∷ ys) (cond b (y ∷ put x ys) (x ∷ y ∷ ys))
  put_moves_by x y ys true h =
      IsPermutation-trans (x ∷ y ∷ ys) (y ∷ x ∷ ys) (y ∷ put x ys)
      (IsPermutation-middle (x ∷ []) y ys) (IsPermutation-cons y (x ∷ ys) (put x ys) h)
  put_moves_by x y ys false h = IsPermutation-refl (x ∷ y ∷ ys)

  put_moves : (x : X) (ys : List X) → IsPermutation (x ∷ ys) (put x ys)
  put_moves x [] = IsPermutation-refl (x ∷ [])
  put_moves x (y ∷ ys) = put_moves_by x y ys (lt y x) (put_moves x ys)

  in_order_moves : (xs : List X) → IsPermutation xs (in_order xs)
  in_order_moves [] = IsPermutation-refl []
  in_order_moves (x ∷ xs) =
      IsPermutation-trans (x ∷ xs) (x ∷ in_order xs) (put x (in_order xs))
      (IsPermutation-cons x xs (in_order xs) (in_order_moves xs)) (put_moves x (in_order xs))

  -- ---- those that tie stay in their order

  -- two that tie with one aren't less than one another
  tie : (z x y : X) → ties lt z x ≡ true → ties lt z y ≡ true → lt y x ≡ false
  tie z x y h k =
      let a = and_parts (not (lt z x)) (not (lt x z)) h in
      let b = and_parts (not (lt z y)) (not (lt y z)) k in
      order.chain y z x (not-true (lt y z) b.1) (not-true (lt z x) a.0)

  put_keeps_by : (z x y : X) (ys : List X) (b p q : Bool) → lt y x ≡ b → ties lt z x ≡ p
      → ties lt z y ≡ q
      → filter (ties lt z) (put x ys) ≡ cond p (x ∷ filter (ties lt z) ys) (filter (ties lt z) ys)
      → filter (ties lt z) (cond b (y ∷ put x ys) (x ∷ y ∷ ys))
      ≡ filter (ties lt z) (x ∷ y ∷ ys)
  put_keeps_by z x y ys false p q e g k h = refl
  put_keeps_by z x y ys true true true e g k h = absurd (true≢false (sym e ∙ tie z x y g k))
  put_keeps_by z x y ys true false q e g k h =
      let rest : List X = filter (ties lt z) (y ∷ ys) in
      ap (λ l. cond (ties lt z y) (y ∷ l) l) h ∙ ap (λ b. cond b (x ∷ rest) rest) (sym g)
  put_keeps_by z x y ys true true false e g k h =
      let put_in : List X = filter (ties lt z) (put x ys) in
      let kept : List X = filter (ties lt z) ys in
      let rest : List X = filter (ties lt z) (y ∷ ys) in
      ap (λ b. cond b (y ∷ put_in) put_in) k ∙ h ∙ ap (λ b. x ∷ cond b (y ∷ kept) kept) (sym k)
      ∙ ap (λ b. cond b (x ∷ rest) rest) (sym g)

  put_keeps : (z x : X) (ys : List X)
      → filter (ties lt z) (put x ys) ≡ filter (ties lt z) (x ∷ ys)
  put_keeps z x [] = refl
  put_keeps z x (y ∷ ys) =
      put_keeps_by z x y ys (lt y x) (ties lt z x) (ties lt z y) refl refl refl (put_keeps z x ys)

  in_order_keeps : (xs : List X) → IsStableBy lt xs (in_order xs)
  in_order_keeps [] z = refl
  in_order_keeps (x ∷ xs) z =
      put_keeps z x (in_order xs)
      ∙ ap (λ rest. cond (ties lt z x) (x ∷ rest) rest) (in_order_keeps xs z)

-- ---- records by their names

abbrev name_of : Record → List ℕ
name_of it = it.name

abbrev before : Record → Record → Bool
before a b = is_lt (slice_cmp nat_cmp a.name b.name)

pub by_names : IsStrictWeakOrder before
by_names = ranks_by nat_list_cmp_total name_of

-- records in the order of their names
abbrev pub sorted : List Record → List Record
sorted records = in_order before by_names records

pub sorts : (records : List Record) → Sorts records (sorted records)
sorts records = record {
  same = in_order_moves before by_names records;
  rises = sorted_from before by_names (sorted records) (in_order_rises before by_names records);
  stable = in_order_keeps before by_names records;
}
