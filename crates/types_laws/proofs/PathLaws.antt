-- What holds of all that the names of a path mean, along declarations.
use Rattle.std.proofs.Common.{◌≡◌, ℕ, List, [], ◌∷◌, ◌++◌, Bool, true, false, Option, None, Some}
use Rattle.std.proofs.Common.{reverse, refl, sym, ◌∙◌, subst}
use Rattle.std.specs.Prelude.{if◌then◌else◌, option_map}
use Rattle.std.specs.Option.{option_or}
use Rattle.std.specs.Str.{bytes_eq}
use Rattle.std.proofs.lemmas.List.{reverse-append, append-nil}
use Rattle.pawn_cells.specs.Constants.{predefined}
use Rattle.pawn_cells.specs.declared.constant.Constant as held
use Rattle.pawn_meaning.specs.Program.{Array}
use Rattle.names_rules.specs.Verdict.{Verdict, Stands, Breaks, after, both}
use Rattle.types_rules.specs.Scope.{Scope, Meaning, Entry, first_named, found, with_entries}
use Rattle.types_rules.specs.Scope.{constant_meaning}
use Rattle.types_rules.specs.Scope as means
use Rattle.types_rules.proofs.PathLaws.{found_by, found_with}
use Rattle.types_rules.proofs.VerdictLaws.{Holds, breaks_holds, holds_after}
use Rattle.types_rules.specs.Constants as constants
use Rattle.types_rules.specs.Arrays.{Shaped}
use Rattle.types_rules.specs.Points.{extent_of, array_means, constant_means}

pub record AllMeant (P : Meaning → Type 0) (path : Scope) : Type 0 where
  pub meant : (name : List ℕ) (it : Meaning) → found path name ≡ Some it → P it

-- ---- one more declaration

by_first : (P : Meaning → Type 0) (b : Bool) (it means : Meaning) (others : Option Meaning)
    → P it → (others ≡ Some means → P means)
    → (if b then Some it else others) ≡ Some means → P means
by_first P true it means others h k e = let same : it ≡ means = cc in subst P same h
by_first P false it means others h k e = k e

pub meant_with : (P : Meaning → Type 0) (path : Scope) (it : Entry) → AllMeant P path → P it.means
    → AllMeant P (with_entries path (it ∷ []))
meant_with P path it h k = record {
  meant = λ name means e.
      by_first P (bytes_eq it.name name) it.means means (found path name) k
      (h.meant name means) (sym (found_with path it name) ∙ e);
}

-- ---- a block of its own

pub meant_inside : (P : Meaning → Type 0) (path : Scope) → AllMeant P path
    → AllMeant P ([] ∷ path)
unfolding found
meant_inside P path h = record { meant = λ name means e. h.meant name means e }

-- with nothing more
pub meant_same : (P : Meaning → Type 0) (path : Scope) → AllMeant P path
    → AllMeant P (with_entries path [])
unfolding found
meant_same P [] h = record { meant = λ name means e. h.meant name means e }
meant_same P (block ∷ outer) h = rw (append-nil block) h

-- ---- the beginning of the file

abbrev pub AllEntries : (P : Meaning → Type 0) → List Entry → Type 0
AllEntries P [] = Unit {0}
AllEntries P (it ∷ more) = P it.means × AllEntries P more

module _ (P : Meaning → Type 0) where
  pub all_append : (xs ys : List Entry) → AllEntries P xs → AllEntries P ys
      → AllEntries P (xs ++ ys)
  all_append [] ys h k = k
  all_append (x ∷ xs) ys h k = (h.0, all_append xs ys h.1 k)

  all_reverse : (xs : List Entry) → AllEntries P xs → AllEntries P (reverse xs)
  all_reverse [] h = tt
  all_reverse (x ∷ xs) h =
      rw (reverse-append (x ∷ []) xs)
      (all_append (reverse xs) (x ∷ []) (all_reverse xs h.1) (h.0, tt))

  first_meant : (entries : List Entry) (name : List ℕ) (it : Meaning) (others : Option Meaning)
      → AllEntries P entries → (others ≡ Some it → P it)
      → option_or (first_named entries name) others ≡ Some it → P it
  first_meant [] name it others h k e = k e
  first_meant (x ∷ more) name it others h k e =
      by_first P (bytes_eq x.name name) x.means it (option_or (first_named more name) others) h.0
      (first_meant more name it others h.1 k)
      (sym (found_by (bytes_eq x.name name) x (first_named more name) others) ∙ e)

  constant_meant : (it : Option held.Constant) (means : Meaning)
      → ((x : held.Constant) → it ≡ Some x → P (constant_meaning x))
      → option_map constant_meaning it ≡ Some means → P means
  constant_meant None means k e = absurd (let no : ⊥ = cc in no)
  constant_meant (Some x) means k e =
      let same : constant_meaning x ≡ means = cc in subst P same (k x refl)

  -- of these entries and the predefined constants
  pub meant_first : (entries : List Entry) → AllEntries P entries
      → ((name : List ℕ) (x : held.Constant) → predefined name ≡ Some x
      → P (constant_meaning x))
      → AllMeant P (entries ∷ [])
  unfolding found
  meant_first entries h k = record {
    meant = λ name it e.
        first_meant (reverse entries) name it (found [] name) (all_reverse entries h)
        (λ none. constant_meant (predefined name) it (k name) none) e;
  }

  -- ---- what a declaration that stands makes of its name

  pub array_meant : {A : Type 0} (a : Array) (tag : ℕ) (constant : Bool) (w : Verdict Shaped)
      (rule : Shaped → Verdict A)
      → ((it : Shaped) → w ≡ Stands it → P (means.Array a (extent_of it.sizes) tag constant))
      → Holds (λ y. P (array_means a tag constant w)) (after w rule)
  array_meant a tag constant (Stands it) rule k = record { of = λ y e. k it refl }
  array_meant a tag constant (Breaks found) rule k = breaks_holds _ _

  pub value_meant : {A : Type 0} (tag : ℕ) (w : Verdict constants.Constant)
      (rule : constants.Constant → Verdict A)
      → ((it : constants.Constant) → w ≡ Stands it → P (means.Constant it.value tag))
      → Holds (λ y. P (constant_means tag w)) (after w rule)
  value_meant tag (Stands it) rule k = record { of = λ y e. k it refl }
  value_meant tag (Breaks found) rule k = breaks_holds _ _

-- what holds of the second part may hang on that the first one stands
pub holds_then : {A B C : Type 0} {P : A → Type 0} {Q : B → Type 0} {R : C → Type 0}
    {v : Verdict A} {w : Verdict B} {rule : A → B → Verdict C} → Holds P v
    → ((x : A) → P x → Holds Q w) → ((x : A) (y : B) → P x → Q y → Holds R (rule x y))
    → Holds R (both v w rule)
holds_then {v = Stands x} h k go =
    holds_after (k x (h.of x refl)) (λ y q. go x y (h.of x refl) q)
holds_then {v = Breaks found} h k go = breaks_holds _ _
