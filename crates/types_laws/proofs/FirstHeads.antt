-- What belongs to a function has the parameters of its first head, where its heads are equal.
use Rattle.std.proofs.Common.{◌≡◌, ℕ, List, [], ◌∷◌, ◌++◌, Bool, true, false, Option, None, Some}
use Rattle.std.proofs.Common.{refl, sym, ap, ◌∙◌, subst, cond}
use Rattle.std.specs.Prelude.{map, filter, find, flat_map, not}
use Rattle.pawn_tree.specs.declared.name.At.{At}
use Rattle.types_rules.specs.Around.{Head}
use Rattle.types_rules.specs.Sources.{Source, Stated, stated_tag}
use Rattle.types_rules.specs.Functions.{fault_if, differs, differing, head_faults}
use Rattle.types_laws.specs.Known.{slot_of}
use Rattle.types_laws.specs.Objects.{Each}
use Rattle.types_laws.proofs.SlotLaws.{head_slots_same}

pub append_none : {A : Type 0} (xs ys : List A) → xs ++ ys ≡ [] → (xs ≡ []) × (ys ≡ [])
append_none [] ys e = (refl, e)
append_none (x ∷ xs) ys e = absurd (let no : ⊥ = cc in no)

flat_by : {A B : Type 0} (p : A → Bool) (f : A → List B) (x : A) (xs : List A) (b : Bool)
    → p x ≡ b → flat_map f (cond b (x ∷ filter p xs) (filter p xs)) ≡ []
    → (flat_map f (filter p xs) ≡ [] → Each (λ y. p y ≡ true → f y ≡ []) xs)
    → Each (λ y. p y ≡ true → f y ≡ []) (x ∷ xs)
flat_by p f x xs true s e k =
    let parts = append_none (f x) (flat_map f (filter p xs)) e in (λ t. parts.0, k parts.1)
flat_by p f x xs false s e k = (λ t. absurd (let no : ⊥ = cc in no), k e)

flat_none : {A B : Type 0} (p : A → Bool) (f : A → List B) (xs : List A)
    → flat_map f (filter p xs) ≡ [] → Each (λ x. p x ≡ true → f x ≡ []) xs
flat_none p f [] e = tt
flat_none p f (x ∷ xs) e = flat_by p f x xs (p x) refl e (flat_none p f xs)

pub some_same : {A : Type 0} {x y : A} → Some x ≡ Some y → x ≡ y
some_same e = cc

find_by : {A : Type 0} (p : A → Bool) (P : A → Type 0) (x : A) (more : List A) (found : A)
    (b : Bool)
    → p x ≡ b → P x → cond b (Some x) (find p more) ≡ Some found
    → (find p more ≡ Some found → P found × (p found ≡ true)) → P found × (p found ≡ true)
find_by p P x more found true s h e k =
    let same : x ≡ found = some_same e in
    (subst P same h, subst (λ z. p z ≡ true) same s)
find_by p P x more found false s h e k = k e

pub find_each : {A : Type 0} (p : A → Bool) (P : A → Type 0) (all : List A) (found : A) → Each P all
    → find p all ≡ Some found → P found × (p found ≡ true)
find_each p P [] found h e = absurd (let no : ⊥ = cc in no)
find_each p P (x ∷ more) found h e =
    find_by p P x more found (p x) refl h.0 e (find_each p P more found h.1)

no_fault : (b : Bool) (kind : ℕ) (at : At) → fault_if b kind at ≡ [] → b ≡ false
no_fault true kind at e = absurd (let no : ⊥ = cc in no)
no_fault false kind at e = refl

not_false : (b : Bool) → not b ≡ false → b ≡ true
not_false true e = refl
not_false false e = absurd (let no : ⊥ = cc in no)

module _ (source : Source) where
  differs_by : (x y : Stated) (a b : Option Head) (head other : Head) → a ≡ Some head
      → b ≡ Some other → differs source x a y b ≡ false
      → map slot_of head.params ≡ map slot_of other.params
  differs_by x y None b head other e f d = absurd (let no : ⊥ = cc in no)
  differs_by x y (Some h) None head other e f d = absurd (let no : ⊥ = cc in no)
  differs_by x y (Some h) (Some o) head other e f d =
      let same : h ≡ head = cc in
      let also : o ≡ other = cc in
      ap (λ (z : Head). map slot_of z.params) (sym same)
      ∙ head_slots_same (stated_tag source x) h (stated_tag source y) o (not_false _ d)
      ∙ ap (λ (z : Head). map slot_of z.params) also

  -- what has the parameters of this head
  abbrev pub HasSlots : Head → Stated → Type 0
  HasSlots head st = (other : Head) → st.head ≡ Some other
      → map slot_of other.params ≡ map slot_of head.params

  same_as : (p : Stated → Bool) (x : Stated) (head : Head) → x.head ≡ Some head
      → (all : List Stated)
      → Each (λ y. p y ≡ true → differing source x y ≡ []) all
      → Each (λ y. p y ≡ true → HasSlots head y) all
  same_as p x head e [] h = tt
  same_as p x head e (y ∷ more) h = (
    λ t other f. sym (differs_by x y x.head y.head head other e f
        (no_fault (differs source x x.head y y.head) _ _ (h.0 t))),
    same_as p x head e more h.1,
  )

  itself_same : (y : Stated) (head : Head) → y.head ≡ Some head → HasSlots head y
  itself_same y head e other g =
      let same : head ≡ other = cc in ap (λ (z : Head). map slot_of z.params) (sym same)

  by_test : (p : Stated → Bool) (x : Stated) (more : List Stated) (found : Stated) (head : Head)
      (b : Bool) → p x ≡ b → cond b (Some x) (find p more) ≡ Some found → found.head ≡ Some head
      → head_faults source (cond b (x ∷ filter p more) (filter p more)) ≡ []
      → (find p more ≡ Some found → found.head ≡ Some head → head_faults source (filter p more) ≡ []
      → Each (λ y. p y ≡ true → HasSlots head y) more)
      → Each (λ y. p y ≡ true → HasSlots head y) (x ∷ more)
  by_test p x more found head true s e f h k =
      let is : x ≡ found = cc in
      let there : x.head ≡ Some head = ap (λ (z : Stated). z.head) is ∙ f in (
        λ t. itself_same x head there,
        same_as p x head there more (flat_none p (differing source x) more h),
      )
  by_test p x more found head false s e f h k = (λ t. absurd (let no : ⊥ = cc in no), k e f h)

  pub slots_same : (p : Stated → Bool) (all : List Stated) (found : Stated) (head : Head)
      → find p all ≡ Some found → found.head ≡ Some head → head_faults source (filter p all) ≡ []
      → Each (λ y. p y ≡ true → HasSlots head y) all
  slots_same p [] found head e f h = absurd (let no : ⊥ = cc in no)
  slots_same p (x ∷ more) found head e f h =
      by_test p x more found head (p x) refl e f h (slots_same p more found head)
