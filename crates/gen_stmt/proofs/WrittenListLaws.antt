-- Elements of a list that is written, or that has one more.
use Rattle.std.proofs.Common.{◌≡◌, ◌⊎◌, inl, inr, ℕ, zero, suc, List, [], ◌∷◌, ◌++◌, None}
use Rattle.std.proofs.Common.{Some, length, slice_get, slice_set, refl, sym, ap, arith}
use Rattle.std.specs.Prelude.{Any}
use Rattle.gen_sim.specs.Fits.{AreOnce}
use Rattle.gen_sim.proofs.LocalScopes.{any_here, any_there, any_cases}

pub none_some : {A : Type 0} (x : A) → None ≡ Some x → ⊥
none_some x e = cc

pub some_same : {A : Type 0} (x y : A) → Some x ≡ Some y → x ≡ y
some_same x y e = cc

-- ---- an element that is written

pub get_set_same : {A : Type 0} (l : List A) (i : ℕ) (a b : A) → slice_get l i ≡ Some b
    → slice_get (slice_set l i a) i ≡ Some a
get_set_same [] i a b e = absurd (none_some b e)
get_set_same (x ∷ l) zero a b e = refl
get_set_same (x ∷ l) (suc i) a b e = get_set_same l i a b e

pub get_set_other : {A : Type 0} (l : List A) (i j : ℕ) (a : A) → ¬ (i ≡ j)
    → slice_get (slice_set l i a) j ≡ slice_get l j
get_set_other [] i j a h = refl
get_set_other (x ∷ l) zero zero a h = absurd (h refl)
get_set_other (x ∷ l) zero (suc j) a h = refl
get_set_other (x ∷ l) (suc i) zero a h = refl
get_set_other (x ∷ l) (suc i) (suc j) a h = get_set_other l i j a (λ e. h (ap suc e))

-- no other one stands there
pub get_set_is : {A : Type 0} (l : List A) (i : ℕ) (a b : A)
    → slice_get (slice_set l i a) i ≡ Some b → a ≡ b
get_set_is [] i a b e = absurd (none_some b e)
get_set_is (x ∷ l) zero a b e = some_same a b e
get_set_is (x ∷ l) (suc i) a b e = get_set_is l i a b e

-- ---- one more

one_more : {A : Type 0} (x : A) (xs : List A) (v y : A) (s : ℕ)
    → (slice_get xs s ≡ Some y) ⊎ ((s ≡ length xs) × (v ≡ y))
    → (slice_get (x ∷ xs) (suc s) ≡ Some y) ⊎ ((suc s ≡ length (x ∷ xs)) × (v ≡ y))
one_more x xs v y s (inl e) = inl e
one_more x xs v y s (inr h) = inr (ap suc h.0, h.1)

pub get_more : {A : Type 0} (xs : List A) (v y : A) (s : ℕ) → slice_get (xs ++ v ∷ []) s ≡ Some y
    → (slice_get xs s ≡ Some y) ⊎ ((s ≡ length xs) × (v ≡ y))
get_more [] v y zero e = inr (refl, some_same v y e)
get_more [] v y (suc s) e = absurd (none_some y e)
get_more (x ∷ xs) v y zero e = inl e
get_more (x ∷ xs) v y (suc s) e = one_more x xs v y s (get_more xs v y s e)

-- ---- some of several

some_behind : {A : Type 0} (P : A → Type 0) (x : A) (xs ys : List A) → Any P xs ⊎ Any P ys
    → Any P (x ∷ xs) ⊎ Any P ys
some_behind P x xs ys (inl a) = inl (any_there P x xs a)
some_behind P x xs ys (inr a) = inr a

either_both : {A : Type 0} (P : A → Type 0) (x : A) (xs ys : List A)
    → (Any P (xs ++ ys) → Any P xs ⊎ Any P ys) → P x ⊎ Any P (xs ++ ys)
    → Any P (x ∷ xs) ⊎ Any P ys
either_both P x xs ys hyp (inl p) = inl (any_here P x xs p)
either_both P x xs ys hyp (inr b) = some_behind P x xs ys (hyp b)

pub any_both : {A : Type 0} (P : A → Type 0) (xs ys : List A) → Any P (xs ++ ys)
    → Any P xs ⊎ Any P ys
any_both P [] ys a = inr a
any_both P (x ∷ xs) ys a =
    either_both P x xs ys (λ b. any_both P xs ys b) (any_cases P x (xs ++ ys) a)

either_left : {A : Type 0} (P : A → Type 0) (x : A) (xs ys : List A) → (Any P xs → Any P (xs ++ ys))
    → P x ⊎ Any P xs → Any P (x ∷ xs ++ ys)
either_left P x xs ys hyp (inl p) = any_here P x (xs ++ ys) p
either_left P x xs ys hyp (inr b) = any_there P x (xs ++ ys) (hyp b)

pub any_left : {A : Type 0} (P : A → Type 0) (xs ys : List A) → Any P xs → Any P (xs ++ ys)
any_left P [] ys a = absurd (omega (arith, a.2))
any_left P (x ∷ xs) ys a = either_left P x xs ys (λ b. any_left P xs ys b) (any_cases P x xs a)

pub any_last : {A : Type 0} (P : A → Type 0) (xs : List A) (y : A) → P y → Any P (xs ++ y ∷ [])
any_last P [] y p = any_here P y [] p
any_last P (x ∷ xs) y p = any_there P x (xs ++ y ∷ []) (any_last P xs y p)

pub any_one : (s t : ℕ) → Any (λ m. m ≡ t) (s ∷ []) → s ≡ t
any_one s t a =
    go (any_cases (λ m. m ≡ t) s [] a)
  where
    go : (s ≡ t) ⊎ Any (λ m. m ≡ t) [] → s ≡ t
    go (inl e) = e
    go (inr b) = absurd (omega (arith, b.2))

-- ---- each once

pub once_more : (made : List ℕ) (s : ℕ) → AreOnce made → ¬ (Any (λ m. m ≡ s) made)
    → AreOnce (made ++ s ∷ [])
once_more [] s once new = ((λ a. omega (arith, a.2)), tt)
once_more (m ∷ made) s once new = (
  λ a. go (any_both (λ n. n ≡ m) made (s ∷ []) a),
  once_more made s once.1 (λ a. new (any_there (λ n. n ≡ s) m made a)),
)
  where
    go : Any (λ n. n ≡ m) made ⊎ Any (λ n. n ≡ m) (s ∷ []) → ⊥
    go (inl a) = once.0 a
    go (inr a) = new (any_here (λ n. n ≡ s) m made (sym (any_one s m a)))

pub once_before : (made : List ℕ) (s : ℕ) → AreOnce (made ++ s ∷ []) → AreOnce made
once_before [] s once = tt
once_before (m ∷ made) s once =
    (λ a. once.0 (any_left (λ n. n ≡ m) made (s ∷ []) a), once_before made s once.1)

new_by : (m s : ℕ) (made : List ℕ) → ¬ (Any (λ n. n ≡ m) (made ++ s ∷ []))
    → ¬ (Any (λ n. n ≡ s) made) → (m ≡ s) ⊎ Any (λ n. n ≡ s) made → ⊥
new_by m s made first others (inl e) = first (any_last (λ n. n ≡ m) made s (sym e))
new_by m s made first others (inr b) = others b

pub once_new : (made : List ℕ) (s : ℕ) → AreOnce (made ++ s ∷ []) → ¬ (Any (λ m. m ≡ s) made)
once_new [] s once a = omega (arith, a.2)
once_new (m ∷ made) s once a =
    new_by m s made once.0 (once_new made s once.1) (any_cases (λ n. n ≡ s) m made a)
