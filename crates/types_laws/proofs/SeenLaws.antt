-- What names mean along declarations.
use Rattle.std.proofs.Common.{◌≡◌, inl, inr, ℕ, List, [], ◌∷◌, ◌++◌, Bool, true, false, Option}
use Rattle.std.proofs.Common.{Some, refl, sym, ap, ◌∙◌, subst, arith}
use Rattle.std.specs.Prelude.{if◌then◌else◌, is_some}
use Rattle.std.specs.List.{Any}
use Rattle.std.specs.Str.{bytes_eq}
use Rattle.std.proofs.lemmas.List.{length-append, get_or_append_left}
use Rattle.std.proofs.lemmas.Slice.Eq.{bytes_eq-Decides}
use Rattle.pawn_meaning.specs.Program.{Scalar, Global, Own, Through, Element, Char, Object}
use Rattle.pawn_meaning.specs.Program.{SlotArray, ParamArray, Row, From}
use Rattle.pawn_meaning.specs.Program as code
use Rattle.pawn_meaning.specs.Scope.{Extent, extent, IsMade, IsInSight, with_made}
use Rattle.pawn_meaning.specs.Scope as program
use Rattle.pawn_meaning.specs.ValidExprs.{IsValidScalar}
use Rattle.types_rules.specs.Around.{Around}
use Rattle.types_rules.specs.Scope.{Scope, Meaning, Constant, Variable, Array, Function, Native}
use Rattle.types_rules.specs.Scope.{Entering, Taken, Unknown, Entry, found, with_entries}
use Rattle.types_laws.specs.Meant.{AreCells, IsReached, IsMeant, KnowsPath}
use Rattle.types_laws.specs.Placed.{IsNumbered}
use Rattle.types_rules.proofs.PathLaws.{found_with}
use Rattle.types_laws.specs.Plain.{IsPlainMeaning, IsPlainPath}
use Rattle.types_laws.specs.Seen.{IsSeenPlace, IsSeenArray, IsSeen, IsSeenPath}

-- ---- with more that is made

pub any_left : {A : Type 0} (P : A → Type 0) (xs ys : List A) → Any P xs → Any P (xs ++ ys)
any_left P xs ys h = (
  h.0,
  h.1,
  omega (arith, h.2, length-append xs ys),
  get_or_append_left xs ys h.1 h.0 h.2 ∙ h.3,
  h.4,
)

in_sight : (scope : program.Scope) (slots : List ℕ) (s : ℕ) → IsInSight scope s
    → IsInSight (with_made slots scope) s
in_sight scope slots s (inl low) = inl low
in_sight scope slots s (inr made) = inr (any_left (λ n. n ≡ s) scope.made slots made)

place_more : (scope : program.Scope) (slots : List ℕ) (p : Scalar) → IsSeenPlace scope p
    → IsSeenPlace (with_made slots scope) p
place_more scope slots (Global o) h = h
place_more scope slots (Own s) h = (h.0, in_sight scope slots s h.1)
place_more scope slots (Through s) h = h
place_more scope slots (Element a e) h = absurd h
place_more scope slots (Char a e) h = absurd h

array_more : (scope : program.Scope) (slots : List ℕ) (reach : Extent) (a : code.Array)
    → IsSeenArray scope reach a → IsSeenArray (with_made slots scope) reach a
array_more scope slots reach (Object o) h = h
array_more scope slots reach (SlotArray s) h =
    (h.0, any_left (λ n. n ≡ s) scope.made slots h.1)
array_more scope slots reach (ParamArray s known) h = h
array_more scope slots reach (Row a e) h = absurd h
array_more scope slots reach (From a e) h = absurd h

module _ (cx : Around) (Calls : List ℕ → Type 0) where
  meaning_more : (scope : program.Scope) (slots name : List ℕ) (it : Meaning)
      → IsSeen scope cx Calls name it → IsSeen (with_made slots scope) cx Calls name it
  meaning_more scope slots name (Constant v tag) h = h
  meaning_more scope slots name (Variable p tag constant) h = (place_more scope slots p h.0, h.1)
  meaning_more scope slots name (Array a reach tag constant) h =
      (array_more scope slots reach a h.0, h.1, h.2)
  meaning_more scope slots name (Function f tag) h = h
  meaning_more scope slots name (Native n tag) h =
      (record { number_in = h.0.number_in }, h.1)
  meaning_more scope slots name (Entering tag) h = h
  meaning_more scope slots name Taken h = tt
  meaning_more scope slots name Unknown h = tt

  pub seen_more : (scope : program.Scope) (slots : List ℕ) (path : Scope)
      → IsSeenPath scope cx Calls path → IsSeenPath (with_made slots scope) cx Calls path
  seen_more scope slots path h =
      record { meant = λ name it e. meaning_more scope slots name it (h.meant name it e) }

  -- ---- one more declaration

  module _ (scope : program.Scope) where
    seen_by : (b : Bool) (it : Entry) (name : List ℕ) (means : Meaning) (others : Option Meaning)
        → bytes_eq it.name name ≡ b → IsSeen scope cx Calls it.name it.means
        → (others ≡ Some means → IsSeen scope cx Calls name means)
        → (if b then Some it.means else others) ≡ Some means → IsSeen scope cx Calls name means
    seen_by true it name means others same h k e =
        let is : it.means ≡ means = cc in
        subst (λ (n : List ℕ). IsSeen scope cx Calls n means)
        ((bytes_eq-Decides it.name name).0 same)
        (subst (λ (m : Meaning). IsSeen scope cx Calls it.name m) is h)
    seen_by false it name means others same h k e = k e

    pub seen_with : (path : Scope) (it : Entry) → IsSeenPath scope cx Calls path
        → IsSeen scope cx Calls it.name it.means
        → IsSeenPath scope cx Calls (with_entries path (it ∷ []))
    seen_with path it h k = record {
      meant = λ name means e.
          seen_by (bytes_eq it.name name) it name means (found path name) refl k
          (h.meant name means) (sym (found_with path it name) ∙ e);
    }

    pub seen_inside : (path : Scope) → IsSeenPath scope cx Calls path
        → IsSeenPath scope cx Calls ([] ∷ path)
    unfolding found
    seen_inside path h = record { meant = λ name means e. h.meant name means e }

    -- ---- what laws below ask

    meant_place : (p : Scalar) → IsSeenPlace scope p → IsValidScalar scope p
    meant_place (Global o) h = h
    meant_place (Own s) h = h
    meant_place (Through s) h = h
    meant_place (Element a e) h = absurd h
    meant_place (Char a e) h = absurd h

    there_is : (reach : Option Extent) (it : Extent) → reach ≡ Some it → is_some reach ≡ true
    there_is reach it e = ap (λ (r : Option Extent). is_some r) e

    meant_array : (reach : Extent) (a : code.Array) → IsSeenArray scope reach a → AreCells reach
        → IsReached scope a reach
    meant_array reach (Object o) h c =
        record { array = there_is _ reach h; reaches = h; cells = c }
    meant_array reach (SlotArray s) h c =
        record { array = (there_is _ reach h.0, h.1); reaches = h.0; cells = c }
    meant_array reach (ParamArray s known) h c =
        record { array = (there_is _ reach h.0, h.1); reaches = h.0; cells = c }
    meant_array reach (Row a e) h c = absurd h
    meant_array reach (From a e) h c = absurd h

    meant : (name : List ℕ) (it : Meaning) → IsSeen scope cx Calls name it → IsMeant scope it
    meant name (Constant v tag) h = h.0
    meant name (Variable p tag constant) h = meant_place p h.0
    meant name (Array a reach tag constant) h = meant_array reach a h.0 h.1
    meant name (Function f tag) h = tt
    meant name (Native n tag) h = tt
    meant name (Entering tag) h = tt
    meant name Taken h = tt
    meant name Unknown h = tt

    pub knows_path : (path : Scope) → IsSeenPath scope cx Calls path → KnowsPath scope path
    knows_path path h = record { meant = λ name it e. meant name it (h.meant name it e) }

    plain : (name : List ℕ) (it : Meaning) → IsSeen scope cx Calls name it → IsPlainMeaning it
    plain name (Constant v tag) h = h
    plain name (Variable p tag constant) h = h.1
    plain name (Array a reach tag constant) h = (h.1, h.2)
    plain name (Function f tag) h = h
    plain name (Native n tag) h = h.1
    plain name (Entering tag) h = h
    plain name Taken h = tt
    plain name Unknown h = tt

    pub plain_path : (path : Scope) → IsSeenPath scope cx Calls path → IsPlainPath path
    plain_path path h = record { meant = λ name it e. plain name it (h.meant name it e) }

    pub numbered : (path : Scope) (name : List ℕ) → IsSeenPath scope cx Calls path → Calls name
        → IsNumbered scope.program cx path name
    numbered path name h c = record {
      number_in = λ n tag it e there.
          let p = h.meant name (Native n tag) e in p.0.number_in c it there;
    }
