-- What is in order stays so where it is sorted, stably; and a stable sort is what putting each
-- element in its place gives.
use Rattle.std.proofs.Common.{◌≡◌, ◌<◌, ◌≤◌, ℕ, suc, Bool, true, false, List, [], ◌∷◌, ◌++◌, cond}
use Rattle.std.proofs.Common.{length, get_or, refl, sym, ap, subst, ◌∙◌, arith, true≢false}
use Rattle.std.proofs.Common.{append_assoc, append-nil}
use Rattle.std.specs.Prelude.{not, ◌&&◌}
use Rattle.std.specs.List.{filter, AllByRecursion}
use Rattle.std.specs.List.Sorted.{IsSortedBy, IsStableBy, ties}
use Rattle.std.specs.Cmp.{IsStrictWeakOrder}
use Rattle.std.proofs.lemmas.List.Elements.{filter-append}
use Rattle.std.proofs.lemmas.List.Sorted.{sorted_far}

module _ {X : Type 0} (lt : X → X → Bool) (order : IsStrictWeakOrder lt) where
  -- none is less than the first
  abbrev pub Above : X → List X → Type 0
  Above x xs = AllByRecursion (λ y. lt y x ≡ false) xs

  -- each element is at least as great as those before it
  abbrev pub Rises : List X → Type 0
  Rises [] = Unit {0}
  Rises (x ∷ xs) = Above x xs × Rises xs

  above_from : (x : X) (xs : List X) → ((k : ℕ) → k < length xs → lt (get_or xs k x) x ≡ false)
      → Above x xs
  above_from x [] h = tt
  above_from x (y ∷ ys) h = (h 0 (omega arith), above_from x ys (λ k p. h (suc k) (omega arith)))

  pub rises_from : (xs : List X)
      → ((i j : ℕ) (d : X) → i ≤ j → j < length xs → lt (get_or xs j d) (get_or xs i d) ≡ false)
      → Rises xs
  rises_from [] h = tt
  rises_from (x ∷ xs) h = (
    above_from x xs (λ k p. h 0 (suc k) x (omega arith) (omega arith)),
    rises_from xs (λ i j d p q. h (suc i) (suc j) d (omega arith) (omega arith)),
  )

  -- ---- elements that tie with one

  ties_by : (a b : Bool) → a ≡ false → b ≡ false → not a && not b ≡ true
  ties_by a b e f = rw (e, f) refl

  ties_self : (x : X) → ties lt x x ≡ true
  ties_self x = cases (lt x x) (order.one_way x x) where
    cases : (b : Bool) → (b ≡ true → b ≡ false) → not b && not b ≡ true
    cases true h = sym (h refl)
    cases false h = refl

  -- those above one that is greater don't tie
  greater : (x y z : X) → lt x y ≡ true → lt z y ≡ false → ties lt x z ≡ false
  greater x y z less above = cases (lt x z) (lt z x) (λ e. order.chain x z y e above) where
    cases : (b c : Bool) → (b ≡ false → lt x y ≡ false) → not b && not c ≡ false
    cases true c h = refl
    cases false c h = absurd (true≢false (sym less ∙ h refl))

  none_tie : (x y : X) (zs : List X) → lt x y ≡ true → Above y zs → filter (ties lt x) zs ≡ []
  none_tie x y [] less above = refl
  none_tie x y (z ∷ zs) less above = rw (greater x y z less above.0) (none_tie x y zs less above.1)

  itself : (y : X) → lt y y ≡ false
  itself y = cases (lt y y) (order.one_way y y) where
    cases : (b : Bool) → (b ≡ true → b ≡ false) → b ≡ false
    cases true h = h refl
    cases false h = refl

  first_kept : (x : X) (xs : List X) → filter (ties lt x) (x ∷ xs) ≡ x ∷ filter (ties lt x) xs
  first_kept x xs = rw (ties_self x) refl

  not_less : (x y : X) (xs ys : List X) → Above y ys
      → filter (ties lt x) (y ∷ ys) ≡ filter (ties lt x) (x ∷ xs) → lt x y ≡ false
  not_less x y xs ys above e = cases (lt x y) refl where
    cases : (b : Bool) → lt x y ≡ b → b ≡ false
    cases false h = refl
    cases true h =
        let none : [] ≡ x ∷ filter (ties lt x) xs =
        sym (none_tie x y (y ∷ ys) h (itself y, above)) ∙ e ∙ first_kept x xs in
        absurd (let no : ⊥ = cc in no)

  tail_same : (x : X) (xs ys : List X) (b : Bool) → cond b (x ∷ ys) ys ≡ cond b (x ∷ xs) xs
      → ys ≡ xs
  tail_same x xs ys true e = cc
  tail_same x xs ys false e = e

  -- one order alone is sorted and keeps those that tie
  pub one_order : (xs ys : List X) → Rises xs → Rises ys → IsStableBy lt xs ys → ys ≡ xs
  one_order [] [] r s f = refl
  one_order [] (y ∷ ys) r s f =
      let none : y ∷ filter (ties lt y) ys ≡ [] = sym (first_kept y ys) ∙ f y in
      absurd (let no : ⊥ = cc in no)
  one_order (x ∷ xs) [] r s f =
      let none : [] ≡ x ∷ filter (ties lt x) xs = f x ∙ first_kept x xs in
      absurd (let no : ⊥ = cc in no)
  one_order (x ∷ xs) (y ∷ ys) r s f =
      let tie : ties lt x y ≡ true =
      ties_by (lt x y) (lt y x) (not_less x y xs ys s.0 (f x))
      (not_less y x ys xs r.0 (sym (f y))) in
      let kept : filter (ties lt x) (y ∷ ys) ≡ y ∷ filter (ties lt x) ys = rw tie refl in
      let both : y ∷ filter (ties lt x) ys ≡ x ∷ filter (ties lt x) xs =
      sym kept ∙ f x ∙ first_kept x xs in
      let same : y ≡ x = cc in
      let rest : ys ≡ xs = one_order xs ys r.1 s.1 (λ z.
      tail_same x (filter (ties lt z) xs) (filter (ties lt z) ys) (ties lt z x)
      (subst (λ w. filter (ties lt z) (w ∷ ys) ≡ filter (ties lt z) (x ∷ xs)) same (f z))) in
      ap (λ w. w ∷ ys) same ∙ ap (λ l. x ∷ l) rest

  -- ---- one element is put in its place, behind those that aren't greater

  abbrev pub placed : X → List X → List X
  placed it [] = it ∷ []
  placed it (x ∷ xs) = cond (not (lt it x)) (x ∷ placed it xs) (it ∷ (x ∷ xs))

  abbrev pub placed_all : List X → List X → List X
  placed_all done [] = done
  placed_all done (it ∷ more) = placed_all (placed it done) more

  above_placed_by : (x it y : X) (ys : List X) (b : Bool) → lt it x ≡ false → Above x (y ∷ ys)
      → Above x (placed it ys)
      → Above x (cond b (y ∷ placed it ys) (it ∷ (y ∷ ys)))
  above_placed_by x it y ys true h a rest = (a.0, rest)
  above_placed_by x it y ys false h a rest = (h, a)

  above_placed : (x it : X) (xs : List X) → lt it x ≡ false → Above x xs → Above x (placed it xs)
  above_placed x it [] h a = (h, tt)
  above_placed x it (y ∷ ys) h a =
      above_placed_by x it y ys (not (lt it y)) h a (above_placed x it ys h a.1)

  -- what isn't less than one that isn't less
  above_all : (it x : X) (xs : List X) → lt x it ≡ false → Above x xs → Above it xs
  above_all it x [] h a = tt
  above_all it x (y ∷ ys) h a = (order.chain y x it a.0 h, above_all it x ys h a.1)

  rises_placed_by : (it x : X) (xs : List X) (b : Bool) → lt it x ≡ b → Rises (x ∷ xs)
      → Rises (placed it xs)
      → Rises (cond (not b) (x ∷ placed it xs) (it ∷ (x ∷ xs)))
  rises_placed_by it x xs true e r rest =
      ((order.one_way it x e, above_all it x xs (order.one_way it x e) r.0), r)
  rises_placed_by it x xs false e r rest = (above_placed x it xs e r.0, rest)

  rises_placed : (it : X) (xs : List X) → Rises xs → Rises (placed it xs)
  rises_placed it [] r = (tt, tt)
  rises_placed it (x ∷ xs) r = rises_placed_by it x xs (lt it x) refl r (rises_placed it xs r.1)

  rises_all : (done xs : List X) → Rises done → Rises (placed_all done xs)
  rises_all done [] r = r
  rises_all done (it ∷ more) r = rises_all (placed it done) more (rises_placed it done r)

  -- ---- and those that tie stay in their order

  -- one that ties with another is less than what is greater than that
  less_too : (z it x : X) → lt it z ≡ false → lt it x ≡ true → lt z x ≡ true
  less_too z it x e less = cases (lt z x) (λ f. order.chain it z x e f) where
    cases : (b : Bool) → (b ≡ false → lt it x ≡ false) → b ≡ true
    cases true h = refl
    cases false h = absurd (true≢false (sym less ∙ h refl))

  tie_parts : (a b : Bool) → not a && not b ≡ true → b ≡ false
  tie_parts true b e = absurd (let no : ⊥ = cc in no)
  tie_parts false true e = absurd (let no : ⊥ = cc in no)
  tie_parts false false e = refl

  kept_in_front : (z it x : X) (xs : List X) (b : Bool) → ties lt z it ≡ b → lt it x ≡ true
      → Above x xs
      → cond b (it ∷ filter (ties lt z) (x ∷ xs)) (filter (ties lt z) (x ∷ xs))
      ≡ filter (ties lt z) (x ∷ xs) ++ cond b (it ∷ []) []
  kept_in_front z it x xs true e less above =
      let far : lt z x ≡ true = less_too z it x (tie_parts (lt z it) (lt it z) e) less in
      let none : filter (ties lt z) (x ∷ xs) ≡ [] = none_tie z x (x ∷ xs) far (itself x, above) in
      ap (λ ys. it ∷ ys) none ∙ sym (ap (λ ys. ys ++ it ∷ []) none)
  kept_in_front z it x xs false e less above = sym (append-nil (filter (ties lt z) (x ∷ xs)))

  kept_step : (z x : X) (ys zs : List X) → filter (ties lt z) ys ≡ filter (ties lt z) zs
      → filter (ties lt z) (x ∷ ys) ≡ filter (ties lt z) (x ∷ zs)
  kept_step z x ys zs h = ap (λ l. cond (ties lt z x) (x ∷ l) l) h

  kept_placed_by : (z it x : X) (xs : List X) (b : Bool) → lt it x ≡ b → Above x xs
      → filter (ties lt z) (placed it xs) ≡ filter (ties lt z) (xs ++ it ∷ [])
      → filter (ties lt z) (cond (not b) (x ∷ placed it xs) (it ∷ (x ∷ xs)))
      ≡ filter (ties lt z) (x ∷ (xs ++ it ∷ []))
  kept_placed_by z it x xs true e above rest =
      kept_in_front z it x xs (ties lt z it) refl e above
      ∙ sym (filter-append (ties lt z) (x ∷ xs) (it ∷ []))
  kept_placed_by z it x xs false e above rest = kept_step z x (placed it xs) (xs ++ it ∷ []) rest

  kept_placed : (z it : X) (xs : List X) → Rises xs
      → filter (ties lt z) (placed it xs) ≡ filter (ties lt z) (xs ++ it ∷ [])
  kept_placed z it [] r = refl
  kept_placed z it (x ∷ xs) r =
      kept_placed_by z it x xs (lt it x) refl r.0 (kept_placed z it xs r.1)

  kept_all : (z : X) (done xs : List X) → Rises done
      → filter (ties lt z) (placed_all done xs) ≡ filter (ties lt z) (done ++ xs)
  kept_all z done [] r = ap (filter (ties lt z)) (sym (append-nil done))
  kept_all z done (it ∷ more) r =
      kept_all z (placed it done) more (rises_placed it done r)
      ∙ filter-append (ties lt z) (placed it done) more
      ∙ ap (λ l. l ++ filter (ties lt z) more) (kept_placed z it done r)
      ∙ sym (filter-append (ties lt z) (done ++ it ∷ []) more)
      ∙ ap (filter (ties lt z)) (append_assoc done (it ∷ []) more)

  -- ---- the sort

  pub sorts_as_placed : (xs ys : List X) → IsSortedBy lt ys → IsStableBy lt xs ys
      → ys ≡ placed_all [] xs
  sorts_as_placed xs ys sorted stable =
      one_order (placed_all [] xs) ys (rises_all [] xs tt)
      (rises_from ys (sorted_far lt order ys sorted))
      (λ z. stable z ∙ sym (kept_all z [] xs tt))
