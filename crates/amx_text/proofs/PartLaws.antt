-- Where a list ends that has elements of one kind alone, with others behind it.
use Rattle.std.proofs.Common.{◌≡◌, Bool, true, false, not, List, [], ◌∷◌, ◌++◌, refl, sym, ap, ◌∙◌}
use Rattle.std.specs.List.{list_all}
use Rattle.std.proofs.lemmas.Bool.{and_parts, and_from, true≢false}
use Rattle.std.proofs.lemmas.List.Folds.{list_all-append}

-- what stands behind doesn't begin with such an element
abbrev pub stops : {X : Type 0} → (X → Bool) → List X → Bool
stops p [] = true
stops p (x ∷ xs) = not (p x)

-- the same elements, and the same behind them
pub record Parted {X : Type 0} (a b r s : List X) : Type 0 where
  pub front : a ≡ b
  pub rest : r ≡ s

module _ {X : Type 0} (p : X → Bool) where
  clash : (x : X) → p x ≡ true → not (p x) ≡ true → ⊥
  clash x h e = by (p x) h e where
    by : (b : Bool) → b ≡ true → not b ≡ true → ⊥
    by true h e = true≢false (sym e)
    by false h e = true≢false (sym h)

  -- a list that is parted so is parted in one way
  pub parted : (a b r s : List X) → list_all p a ≡ true → list_all p b ≡ true → stops p r ≡ true
      → stops p s ≡ true → a ++ r ≡ b ++ s → Parted a b r s
  parted [] [] r s h k u v e = record { front = refl; rest = e }
  parted [] (y ∷ b) [] s h k u v e = absurd (let no : ⊥ = cc in no)
  parted [] (y ∷ b) (x ∷ r) s h k u v e =
      let same : x ≡ y = cc in
      absurd (clash y (and_parts (p y) (list_all p b) k).0 (ap (λ z. not (p z)) (sym same) ∙ u))
  parted (x ∷ a) [] r [] h k u v e = absurd (let no : ⊥ = cc in no)
  parted (x ∷ a) [] r (y ∷ s) h k u v e =
      let same : x ≡ y = cc in
      absurd (clash x (and_parts (p x) (list_all p a) h).0 (ap (λ z. not (p z)) same ∙ v))
  parted (x ∷ a) (y ∷ b) r s h k u v e =
      let same : x ≡ y = cc in
      let others : a ++ r ≡ b ++ s = cc in
      let it =
      parted a b r s (and_parts (p x) (list_all p a) h).1 (and_parts (p y) (list_all p b) k).1 u v
      others in
      let front : a ≡ b = it.front in
      record { front = cc; rest = it.rest }

  pub all-append : (xs ys : List X) → list_all p xs ≡ true → list_all p ys ≡ true
      → list_all p (xs ++ ys) ≡ true
  all-append xs ys h k =
      list_all-append p xs ys ∙ and_from (list_all p xs) (list_all p ys) h k

-- elements of one kind that are all of another
pub all-weaker : {X : Type 0} (p q : X → Bool) → ((x : X) → p x ≡ true → q x ≡ true)
    → (xs : List X) → list_all p xs ≡ true → list_all q xs ≡ true
all-weaker p q h [] e = refl
all-weaker p q h (x ∷ xs) e =
    let both = and_parts (p x) (list_all p xs) e in
    and_from (q x) (list_all q xs) (h x both.0) (all-weaker p q h xs both.1)

-- what is behind the same beginning
pub behind : {X : Type 0} (xs a b : List X) → xs ++ a ≡ xs ++ b → a ≡ b
behind [] a b e = e
behind (x ∷ xs) a b e = let others : xs ++ a ≡ xs ++ b = cc in behind xs a b others
