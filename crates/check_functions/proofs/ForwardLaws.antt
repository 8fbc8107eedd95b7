-- Two of many tell of all: the first one, and the first one that differs from it.
use Rattle.std.proofs.Common.{◌≡◌, ◌≢◌, ◌<◌, ◌≤◌, ◌+◌, ℕ, Bool, true, false, Option, Some, None}
use Rattle.std.proofs.Common.{refl, sym, ap, subst, ◌∙◌, arith}
use Rattle.std.specs.Prelude.{nat_eq}
use Rattle.std.proofs.lemmas.Bool.{false≢true, eq-eqb, eqb-true}
use Rattle.std.proofs.lemmas.Option.{same_Some}
use Rattle.check_functions.specs.EntryForwards.{AreTold}

below_one : (j i : ℕ) → j < i + 1 → i ≢ j → j < i
below_one j i lt apart = omega (arith, lt, apart)

module _ (P : ℕ → Bool) (D : ℕ → ℕ → Bool) where
  pub none_told : AreTold P D 0 None None
  none_told = record {
    first_is = λ w e. absurd (let no : ⊥ = cc in no);
    other_is = λ v e. absurd (let no : ⊥ = cc in no);
    none = λ e j lt. absurd (let no : ⊥ = omega (arith, lt) in no);
    same = λ e w f. absurd (let no : ⊥ = cc in no);
  }

  -- ---- one more

  at_last : (i j : ℕ) (R : Type 0) → j < i + 1 → (j < i → R) → (i ≡ j → R) → R
  at_last i j R lt before here = by (nat_eq i j) refl
    where
      by : (b : Bool) → nat_eq i j ≡ b → R
      by true e = here (eqb-true i j e)
      by false e =
          before (below_one j i lt (λ (same : i ≡ j). false≢true (sym e ∙ eq-eqb i j same)))

  pub told_passed : (i : ℕ) (first other : Option ℕ) → P i ≡ false → AreTold P D i first other
      → AreTold P D (i + 1) first other
  told_passed i first other p h = record {
    first_is = h.first_is;
    other_is = h.other_is;
    none =
        λ e j lt. at_last i j (P j ≡ false) lt (λ less. h.none e j less)
        (λ here. ap P (sym here) ∙ p);
    same = λ e w f j lt q apart.
        at_last i j (D w j ≡ false) lt (λ less. h.same e w f j less q apart)
        (λ here. absurd (false≢true (sym p ∙ ap P here ∙ q)));
  }

  pub told_first : (i : ℕ) (other : Option ℕ) → P i ≡ true → AreTold P D i None other
      → AreTold P D (i + 1) (Some i) None
  told_first i other p h = record {
    first_is = λ w e. ap P (sym (same_Some _ _ e)) ∙ p;
    other_is = λ v e. absurd (let no : ⊥ = cc in no);
    none = λ e. absurd (let no : ⊥ = cc in no);
    same = λ e w f j lt q apart.
        let here : i ≡ w = same_Some _ _ f in
        at_last i j (D w j ≡ false) lt (λ less. absurd (false≢true (sym (h.none refl j less) ∙ q)))
        (λ last. absurd (apart (sym here ∙ last)));
  }

  pub told_kept : (i w v : ℕ) (other : Option ℕ) → other ≡ Some v → AreTold P D i (Some w) other
      → AreTold P D (i + 1) (Some w) other
  told_kept i w v other is h = record {
    first_is = h.first_is;
    other_is = h.other_is;
    none = λ e. absurd (let no : ⊥ = cc in no);
    same = λ e. absurd (let none : None ≡ Some v = sym e ∙ is in let no : ⊥ = cc in no);
  }

  pub told_like : (i w : ℕ) → D w i ≡ false → AreTold P D i (Some w) None
      → AreTold P D (i + 1) (Some w) None
  told_like i w d h = record {
    first_is = h.first_is;
    other_is = h.other_is;
    none = λ e. absurd (let no : ⊥ = cc in no);
    same = λ e u f j lt q apart.
        let here : w ≡ u = same_Some _ _ f in
        at_last i j (D u j ≡ false) lt (λ less. h.same refl u f j less q apart)
        (λ last. ap (λ (k : ℕ). D k j) (sym here) ∙ (ap (D w) (sym last) ∙ d));
  }

  pub told_unlike : (i w : ℕ) → P i ≡ true → D w i ≡ true → AreTold P D i (Some w) None
      → AreTold P D (i + 1) (Some w) (Some i)
  told_unlike i w p d h = record {
    first_is = h.first_is;
    other_is = λ v e.
        let here : i ≡ v = same_Some _ _ e in
        (ap P (sym here) ∙ p, w, refl, ap (D w) (sym here) ∙ d);
    none = λ e. absurd (let no : ⊥ = cc in no);
    same = λ e. absurd (let no : ⊥ = cc in no);
  }

  -- those below a lesser number
  pub told_within : (i count : ℕ) (first other : Option ℕ) → count ≤ i → AreTold P D i first other
      → AreTold P D count first other
  told_within i count first other le h = record {
    first_is = h.first_is;
    other_is = h.other_is;
    none = λ e j lt. h.none e j (omega (arith, le, lt));
    same = λ e w f j lt. h.same e w f j (omega (arith, le, lt));
  }

  -- ---- all of them

  module _ (S : ℕ → Bool) (stands : (i : ℕ) → P i ≡ true → S i ≡ true)
      (gone : (i j : ℕ) → S i ≡ false → D i j ≡ false)
      (alike : (i j k : ℕ) → S i ≡ true → S j ≡ true → S k ≡ true → D i j ≡ false
      → D i k ≡ D j k) where
    -- what doesn't differ from these two differs from none
    pub told_all : (count : ℕ) (first other : Option ℕ) → AreTold P D count first other → (f : ℕ)
        → ((w : ℕ) → first ≡ Some w → D f w ≡ false) → ((v : ℕ) → other ≡ Some v → D f v ≡ false)
        → (j : ℕ) → j < count → P j ≡ true → D f j ≡ false
    told_all count first other h f one two j lt p = by_first (S f) refl first refl
      where
        by_other : (w : ℕ) → first ≡ Some w → S f ≡ true → D w j ≡ false → D f j ≡ false
        by_other w e s d =
            alike f w j s (stands w (h.first_is w e)) (stands j p) (one w e) ∙ d

        by_same : (w : ℕ) → first ≡ Some w → S f ≡ true → (o : Option ℕ) → other ≡ o → D f j ≡ false
        by_same w e s None n = by (nat_eq w j) refl
          where
            by : (b : Bool) → nat_eq w j ≡ b → D f j ≡ false
            by true t = subst (λ (k : ℕ). D f k ≡ false) (eqb-true w j t) (one w e)
            by false t =
                by_other w e s (h.same n w e j lt p
                (λ (same : w ≡ j). false≢true (sym t ∙ eq-eqb w j same)))
        by_same w e s (Some v) n =
            let old = h.other_is v n in
            let here : w ≡ old.1 = same_Some _ _ (sym e ∙ old.2) in
            let unlike : D w v ≡ true = ap (λ (k : ℕ). D k v) here ∙ old.3 in
            absurd (false≢true (sym (two v n)
            ∙ alike f w v s (stands w (h.first_is w e)) (stands v old.0) (one w e) ∙ unlike))

        by_first : (s : Bool) → S f ≡ s → (o : Option ℕ) → first ≡ o → D f j ≡ false
        by_first false s o e = gone f j s
        by_first true s None e = absurd (false≢true (sym (h.none e j lt) ∙ p))
        by_first true s (Some w) e = by_same w e s other refl
