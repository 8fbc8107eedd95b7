-- Names that stand twice, in lists that grow.
use Rattle.std.proofs.Common.{◌≡◌, List, [], ◌∷◌, ◌++◌, ℕ, Bool, true, false, ◌||◌, if◌then◌else◌}
use Rattle.std.proofs.Common.{refl, sym, ap, ap₂, ◌∙◌, append-nil, append_assoc, true≢false}
use Rattle.std.specs.Str.{bytes_eq}
use Rattle.std.specs.Cmp.Lexicographic.{nat_list_eq_equiv}
use Rattle.std.proofs.lemmas.List.Folds.{list_any-append}
use Rattle.pawn_base.specs.Among.{is_among}
use Rattle.pawn_states.specs.Classifier.{has_twice}

regrouped : (a b c d : Bool) → ((a || (b || false)) || (c || d)) ≡ ((a || c) || (b || d))
regrouped true b c d = refl
regrouped false true true d = refl
regrouped false true false d = refl
regrouped false false c d = refl

-- the last name of a list
pub snoc_twice : (names : List (List ℕ)) (name : List ℕ)
    → has_twice (names ++ name ∷ []) ≡ (has_twice names || is_among name names)
snoc_twice [] name = refl
snoc_twice (first ∷ names) name =
    ap₂ (λ a b. a || b) (list_any-append (bytes_eq first) names (name ∷ [])) (snoc_twice names name)
    ∙ regrouped (is_among first names) (bytes_eq first name) (has_twice names) (is_among name names)
    ∙ ap (λ b. (is_among first names || has_twice names) || (b || is_among name names))
    (nat_list_eq_equiv.symm first name)

either : (a b c d : Bool) → (a || c) ≡ true → (c ≡ true → d ≡ true) → ((a || b) || d) ≡ true
either true b c d h more = refl
either false true c d h more = refl
either false false c d h more = more h

-- names behind others
more_twice : (names more : List (List ℕ)) → has_twice names ≡ true
    → has_twice (names ++ more) ≡ true
more_twice [] more h = absurd (true≢false (sym h))
more_twice (first ∷ names) more h =
    ap (λ b. b || has_twice (names ++ more)) (list_any-append (bytes_eq first) names more)
    ∙ either (is_among first names) (is_among first more) (has_twice names)
    (has_twice (names ++ more)) h
    (more_twice names more)

-- whether a name of a list stands before it, or twice
abbrev pub repeated : List (List ℕ) → List (List ℕ) → Bool
repeated seen [] = false
repeated seen (name ∷ more) = if is_among name seen then true else repeated (seen ++ name ∷ []) more

last_is_among : (a b : Bool) → b ≡ true → (a || b) ≡ true
last_is_among true b e = refl
last_is_among false b e = e

pub repeated_is : (seen more : List (List ℕ)) → has_twice seen ≡ false
    → repeated seen more ≡ has_twice (seen ++ more)
repeated_is seen [] none = sym (ap has_twice (append-nil seen) ∙ none)
repeated_is seen (name ∷ more) none =
    by (is_among name seen) refl (repeated_is (seen ++ name ∷ []) more)
  where
    regroup : has_twice ((seen ++ name ∷ []) ++ more) ≡ has_twice (seen ++ name ∷ more)
    regroup = ap has_twice (append_assoc seen (name ∷ []) more)

    by : (b : Bool) → is_among name seen ≡ b
        → (has_twice (seen ++ name ∷ []) ≡ false
        → repeated (seen ++ name ∷ []) more ≡ has_twice ((seen ++ name ∷ []) ++ more))
        → repeated seen (name ∷ more) ≡ has_twice (seen ++ name ∷ more)
    by true e rest =
        let twice = snoc_twice seen name ∙ last_is_among (has_twice seen) (is_among name seen) e in
        ap (λ b. if b then true else repeated (seen ++ name ∷ []) more) e
        ∙ sym (more_twice (seen ++ name ∷ []) more twice) ∙ regroup
    by false e rest =
        ap (λ b. if b then true else repeated (seen ++ name ∷ []) more) e
        ∙ rest (snoc_twice seen name ∙ ap₂ (λ a b. a || b) none e) ∙ regroup
