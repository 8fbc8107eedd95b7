-- What holds of all that a verdict may mean.
use Rattle.std.proofs.Common.{◌≡◌, ◌+◌, ℕ, zero, suc, Bool, true, false, List, [], ◌∷◌, ◌++◌}
use Rattle.std.proofs.Common.{length, length-append, Option, None, Some, refl, arith}
use Rattle.std.specs.Prelude.{All, ⊤, if◌then◌else◌}
use Rattle.std.proofs.lemmas.List.Elements.{All-append}
use Rattle.serde_json.specs.Data.{Data, Items, no_items, item}
use Rattle.serde_json.specs.Events.{items_len}
use Rattle.script_reader.specs.declared.fault.Field.{Field}
use Rattle.script_reader.specs.Verdict.{Verdict, Stands, Breaks, after, also, each}
use Rattle.script_reader.specs.Rules.{ranged, typed, optional, required, some_rule}

abbrev pub Holds : {A : Type 0} → (A → Type 0) → Verdict A → Type 0
Holds P (Stands x) = P x
Holds P (Breaks found) = Unit {0}

pub holds_is : {A : Type 0} (P : A → Type 0) (w : Verdict A) (x : A) → Holds P w
    → w ≡ Stands x → P x
holds_is P w x h e = rw e at h

pub holds_nothing : {A : Type 0} (w : Verdict A) → Holds (λ x. ⊤) w
holds_nothing (Stands x) = tt
holds_nothing (Breaks found) = tt

pub holds_weaker : {A : Type 0} (P Q : A → Type 0) (w : Verdict A) → ((x : A) → P x → Q x)
    → Holds P w → Holds Q w
holds_weaker P Q (Stands x) g h = g x h
holds_weaker P Q (Breaks found) g h = tt

pub holds_after : {A B : Type 0} (P : A → Type 0) (Q : B → Type 0) (w : Verdict A)
    (rule : A → Verdict B) → Holds P w → ((x : A) → P x → Holds Q (rule x)) → Holds Q (after w rule)
holds_after P Q (Stands x) rule h g = g x h
holds_after P Q (Breaks found) rule h g = tt

pub holds_also : {A B : Type 0} (P : A → Type 0) (Q : B → Type 0) (w : Verdict (A → B))
    (v : Verdict A) → Holds (λ f. (x : A) → P x → Q (f x)) w → Holds P v → Holds Q (also w v)
holds_also P Q (Stands f) (Stands x) h g = h x g
holds_also P Q (Stands f) (Breaks found) h g = tt
holds_also P Q (Breaks found) v h g = tt

-- where one of two cases is a fault
pub holds_else : {A : Type 0} (P : A → Type 0) (test : Bool) (w v : Verdict A) → Holds P w
    → (test ≡ false → Holds P v) → Holds P (if test then w else v)
holds_else P true w v h g = h
holds_else P false w v h g = g refl

pub holds_then : {A : Type 0} (P : A → Type 0) (test : Bool) (w v : Verdict A)
    → (test ≡ true → Holds P w) → Holds P v → Holds P (if test then w else v)
holds_then P true w v h g = h refl
holds_then P false w v h g = g

pub holds_ranged : {A : Type 0} (P : A → Type 0) (at : Field) (fits : Bool) (x : A)
    → (fits ≡ true → P x) → Holds P (ranged at fits x)
holds_ranged P at true x h = h refl
holds_ranged P at false x h = tt

pub holds_typed : {A B : Type 0} (P : B → Type 0) (at : Field) (rule : A → Verdict B) (o : Option A)
    → ((x : A) → Holds P (rule x)) → Holds P (typed at rule o)
holds_typed P at rule None h = tt
holds_typed P at rule (Some x) h = h x

pub holds_optional : {A : Type 0} (P : A → Type 0) (absent : A) (rule : Data → Verdict A)
    (o : Option Data) → P absent → ((d : Data) → Holds P (rule d))
    → Holds P (optional absent rule o)
holds_optional P absent rule None h g = h
holds_optional P absent rule (Some d) h g = g d

pub holds_required : {A : Type 0} (P : A → Type 0) (at : Field) (rule : Data → Verdict A)
    (o : Option Data) → ((d : Data) → Holds P (rule d)) → Holds P (required at rule o)
holds_required P at rule None g = tt
holds_required P at rule (Some d) g = g d

pub holds_some : {A : Type 0} (P : A → Type 0) (Q : Option A → Type 0) (rule : Data → Verdict A)
    → ((x : A) → P x → Q (Some x)) → ((d : Data) → Holds P (rule d)) → (d : Data)
    → Holds Q (some_rule rule d)
holds_some P Q rule g h d = holds_after P Q (rule d) (λ x. Stands (Some x)) (h d) g

-- ---- lists

pub holds_each : {A : Type 0} (P : A → Type 0) (step : A → Data → Verdict A)
    → ((done : A) (d : Data) → P done → Holds P (step done d)) → (done : A) (items : Items) → P done
    → Holds P (each step done items)
holds_each P step g done no_items h = h
holds_each P step g done (item d ds) h =
    holds_after P P (step done d) (λ next. each step next ds) (g done d h)
    (λ next k. holds_each P step g next ds k)

pub no_elements : {A : Type 0} (P : A → Type 0) → All P []
no_elements P k d h = absurd (omega (arith, h))

one_element : {A : Type 0} (P : A → Type 0) (x : A) → P x → All P (x ∷ [])
one_element P x h zero d l = h
one_element P x h (suc k) d l = absurd (omega (arith, l))

-- a rule for each element alone
module _ {A : Type 0} (P : A → Type 0) (rule : Data → Verdict A)
    (holds : (d : Data) → Holds P (rule d)) where
  abbrev step : List A → Data → Verdict (List A)
  step done d = after (rule d) (λ x. Stands (done ++ x ∷ []))

  abbrev Grows : ℕ → List A → Type 0
  Grows count xs = All P xs × (length xs ≡ count)

  step_holds : (done : List A) (d : Data) → All P done
      → Holds (Grows (length done + 1)) (step done d)
  step_holds done d all =
      holds_after P (Grows (length done + 1)) (rule d) (λ x. Stands (done ++ x ∷ [])) (holds d)
      (λ x h. (All-append P done (x ∷ []) all (one_element P x h), length-append done (x ∷ [])))

  elements : (done : List A) (items : Items) → All P done
      → Holds (Grows (length done + items_len items)) (each step done items)
  elements done no_items all = (all, omega arith)
  elements done (item d ds) all =
      holds_after (Grows (length done + 1)) (Grows (length done + suc (items_len ds))) (step done d)
      (λ next. each step next ds) (step_holds done d all)
      (λ next grown. holds_weaker (Grows (length next + items_len ds))
      (Grows (length done + suc (items_len ds))) (each step next ds)
      (λ xs all_grown. (all_grown.0, omega (arith, all_grown.1, grown.1)))
      (elements next ds grown.0))

  pub holds_elements : (items : Items) → Holds (Grows (items_len items)) (each step [] items)
  holds_elements items =
      holds_weaker (Grows (length {A = A} [] + items_len items)) (Grows (items_len items))
      (each step [] items) (λ xs all. (all.0, omega (arith, all.1)))
      (elements [] items (no_elements P))
