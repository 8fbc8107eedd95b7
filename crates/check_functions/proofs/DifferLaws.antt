-- The heads of a function differ where one of them does from the first.
use Rattle.std.proofs.Common.{◌≡◌, ◌≢◌, ℕ, zero, suc, Bool, true, false, if◌then◌else◌, List, []}
use Rattle.std.proofs.Common.{◌∷◌, ◌++◌, Option, Some, None, option_map, refl, sym, ap, subst, ◌∙◌}
use Rattle.std.proofs.Common.{arith}
use Rattle.std.specs.Prelude.{slice_get, filter, flat_map}
use Rattle.std.proofs.lemmas.Bool.{false≢true}
use Rattle.std.proofs.lemmas.List.Elements.{Contains-append_left, Contains-append_right}
use Rattle.names_rules.specs.Verdict.{Fault}
use Rattle.pawn_verdict.specs.Answers.{Fails}
use Rattle.pawn_verdict.specs.declared.fault.CheckFault.{CheckFault}
use Rattle.pawn_verdict.specs.declared.fault.CheckFault.TheVariants.{Source as Broken, Memory}
use Rattle.types_rules.specs.Sources.{Source, Stated}
use Rattle.types_rules.specs.Functions.{differing, head_faults}
use Rattle.check_source.proofs.PlaceLaws.{place}

fails_left : (xs ys : List Fault) (fault : CheckFault) → Fails xs fault → Fails (xs ++ ys) fault
fails_left xs ys (Broken kind place) h = record { cause = Contains-append_left xs ys _ h.cause }
fails_left xs ys Memory h = record { cause = tt }

fails_right : (xs ys : List Fault) (fault : CheckFault) → Fails ys fault → Fails (xs ++ ys) fault
fails_right xs ys (Broken kind place) h = record { cause = Contains-append_right xs ys _ h.cause }
fails_right xs ys Memory h = record { cause = tt }

module _ {A : Type 0} (faults : A → List Fault) where
  pub none_of : (xs : List A) → ((i : ℕ) (x : A) → slice_get xs i ≡ Some x → faults x ≡ [])
      → flat_map faults xs ≡ []
  none_of [] h = refl
  none_of (x ∷ xs) h =
      ap (λ (fs : List Fault). fs ++ flat_map faults xs) (h 0 x refl)
      ∙ none_of xs (λ i y at. h (suc i) y at)

  pub one_of : (xs : List A) (i : ℕ) (x : A) (fault : CheckFault) → slice_get xs i ≡ Some x
      → Fails (faults x) fault → Fails (flat_map faults xs) fault
  one_of [] i x fault at h = absurd (let no : ⊥ = cc in no)
  one_of (y ∷ ys) zero x fault at h =
      let same : y ≡ x = cc in
      fails_left (faults y) (flat_map faults ys) fault
      (subst (λ (z : A). Fails (faults z) fault) (sym same) h)
  one_of (y ∷ ys) (suc i) x fault at h =
      fails_right (faults y) (flat_map faults ys) fault (one_of ys i x fault at h)

same_number : (m n : ℕ) → Some m ≡ Some n → m ≡ n
same_number m n h = cc

-- ---- those that pass a test, behind the first of them

module _ {A : Type 0} (p : A → Bool) (faults : A → A → List Fault) where
  kept : (x : A) (xs : List A) → ((i : ℕ) (y : A) → slice_get xs i ≡ Some y → p y ≡ true
      → faults x y ≡ []) → flat_map (faults x) (filter p xs) ≡ []
  kept x [] h = refl
  kept x (y ∷ ys) h = by (p y) refl (kept x ys (λ i z at. h (suc i) z at))
    where
      by : (b : Bool) → p y ≡ b → flat_map (faults x) (filter p ys) ≡ []
          → flat_map (faults x) (if b then y ∷ filter p ys else filter p ys) ≡ []
      by true e k =
          ap (λ (fs : List Fault). fs ++ flat_map (faults x) (filter p ys)) (h 0 y refl e) ∙ k
      by false e k = k

  found : (x : A) (xs : List A) (i : ℕ) (y : A) (fault : CheckFault) → slice_get xs i ≡ Some y
      → p y ≡ true → Fails (faults x y) fault
      → Fails (flat_map (faults x) (filter p xs)) fault
  found x [] i y fault at own h = absurd (let no : ⊥ = cc in no)
  found x (z ∷ zs) zero y fault at own h = by (p z) refl
    where
      same : z ≡ y
      same = cc

      by : (b : Bool) → p z ≡ b → Fails
          (flat_map (faults x) (if b then z ∷ filter p zs else filter p zs)) fault
      by true e =
          fails_left (faults x z) (flat_map (faults x) (filter p zs)) fault
          (subst (λ (w : A). Fails (faults x w) fault) (sym same) h)
      by false e = absurd (false≢true (sym e ∙ ap p same ∙ own))
  found x (z ∷ zs) (suc i) y fault at own h = by (p z) (found x zs i y fault at own h)
    where
      by : (b : Bool) → Fails (flat_map (faults x) (filter p zs)) fault
          → Fails (flat_map (faults x) (if b then z ∷ filter p zs else filter p zs)) fault
      by true k = fails_right (faults x z) (flat_map (faults x) (filter p zs)) fault k
      by false k = k

  -- those behind the first one against it
  abbrev pub against : List A → List Fault
  against [] = []
  against (first ∷ more) = flat_map (faults first) more

  pub first_none : (xs : List A)
      → ((f i : ℕ) (x y : A) → place p xs ≡ Some f → slice_get xs f ≡ Some x → f ≢ i
      → slice_get xs i ≡ Some y → p y ≡ true → faults x y ≡ [])
      → against (filter p xs) ≡ []
  first_none [] h = refl
  first_none (x ∷ xs) h = by (p x) refl (first_none xs)
    where
      by : (b : Bool) → p x ≡ b
          → (((f i : ℕ) (a c : A) → place p xs ≡ Some f → slice_get xs f ≡ Some a → f ≢ i
          → slice_get xs i ≡ Some c → p c ≡ true → faults a c ≡ []) → against (filter p xs) ≡ [])
          → against (if b then x ∷ filter p xs else filter p xs) ≡ []
      by true e rest =
          kept x xs (λ i y at own. h 0 (suc i) x y
          (ap (λ (b : Bool). if b then Some 0 else option_map suc (place p xs)) e) refl
          (λ same. let no : ⊥ = omega arith in no) at own)
      by false e rest = rest (λ f i a c first here apart at own.
          h (suc f) (suc i) a c (ap (λ (t : Bool). if t then Some 0
          else option_map suc (place p xs)) e ∙ ap (option_map suc) first) here
          (λ same. apart (let one : f ≡ i = omega (arith, same) in one)) at own)

  never : (r : Option ℕ) → option_map suc r ≡ Some 0 → ⊥
  never None t = cc
  never (Some n) t = let e : suc n ≡ 0 = same_number (suc n) 0 t in omega (arith, e)

  less : (r : Option ℕ) (n : ℕ) → option_map suc r ≡ Some (suc n) → r ≡ Some n
  less None n t = absurd (let no : ⊥ = cc in no)
  less (Some m) n t =
      let e : suc m ≡ suc n = same_number (suc m) (suc n) t in
      let one : m ≡ n = omega (arith, e) in ap Some one

  abbrev Finds : List A → Type 0
  Finds zs = (f i : ℕ) (x y : A) (fault : CheckFault) → place p zs ≡ Some f
      → slice_get zs f ≡ Some x → f ≢ i → slice_get zs i ≡ Some y → p y ≡ true
      → Fails (faults x y) fault → Fails (against (filter p zs)) fault

  found_by : (z : A) (zs : List A) (x y : A) (fault : CheckFault) → p y ≡ true
      → Fails (faults x y) fault → (b : Bool) → p z ≡ b → Finds zs
      → (g j : ℕ) → (if p z then Some 0 else option_map suc (place p zs)) ≡ Some g
      → slice_get (z ∷ zs) g ≡ Some x → g ≢ j
      → slice_get (z ∷ zs) j ≡ Some y
      → Fails (against (if b then z ∷ filter p zs else filter p zs)) fault
  found_by z zs x y fault own h true e rest zero zero s k d a = absurd (d refl)
  found_by z zs x y fault own h true e rest zero (suc j) s k d a =
      let same : z ≡ x = cc in
      subst (λ (w : A). Fails (flat_map (faults w) (filter p zs)) fault) (sym same)
      (found x zs j y fault a own h)
  found_by z zs x y fault own h true e rest (suc g) j s k d a =
      let t : Some 0 ≡ Some (suc g) =
      ap (λ (b : Bool). if b then Some 0 else option_map suc (place p zs)) (sym e) ∙ s in
      absurd (let n : 0 ≡ suc g = same_number 0 (suc g) t in omega (arith, n))
  found_by z zs x y fault own h false e rest g zero s k d a =
      let same : z ≡ y = cc in
      absurd (false≢true (sym e ∙ ap p same ∙ own))
  found_by z zs x y fault own h false e rest zero (suc j) s k d a =
      absurd (never (place p zs) (ap
      (λ (b : Bool). if b then Some 0 else option_map suc (place p zs)) (sym e) ∙ s))
  found_by z zs x y fault own h false e rest (suc g) (suc j) s k d a =
      rest g j x y fault (less (place p zs) g
      (ap (λ (b : Bool). if b then Some 0 else option_map suc (place p zs)) (sym e) ∙ s)) k
      (λ same. d (ap suc same)) a own h

  pub first_found : (xs : List A) (f i : ℕ) (x y : A) (fault : CheckFault) → place p xs ≡ Some f
      → slice_get xs f ≡ Some x → f ≢ i → slice_get xs i ≡ Some y → p y ≡ true
      → Fails (faults x y) fault → Fails (against (filter p xs)) fault
  first_found [] f i x y fault first here apart at own h = absurd (let no : ⊥ = cc in no)
  first_found (z ∷ zs) f i x y fault first here apart at own h =
      found_by z zs x y fault own h (p z) refl (first_found zs) f i first here apart at

pub against_is : (source : Source) (all : List Stated)
    → against (λ (it : Stated). true) (differing source) all ≡ head_faults source all
against_is source [] = refl
against_is source (first ∷ more) = refl
