-- What a parameter is given by an argument is valid and of the parameter's kind.
use Rattle.std.proofs.Common.{◌≡◌, ℕ, pos, List, [], ◌∷◌, Bool, true, false, Option, None, Some}
use Rattle.std.proofs.Common.{refl, sym, ◌∙◌, subst, ap, arith}
use Rattle.std.specs.Prelude.{if◌then◌else◌}
use Rattle.std.specs.Str.{bytes_eq}
use Rattle.std.proofs.lemmas.Bool.{eqb-true, and_parts}
use Rattle.std.proofs.lemmas.Slice.Eq.{bytes_eq-Decides}
use Rattle.pawn_cells.specs.Cells.{IsCell}
use Rattle.pawn_tree.specs.declared.name.At.{At}
use Rattle.pawn_meaning.specs.Program.{Scalar, Global, Own, Through, Element, Char, Array, From}
use Rattle.pawn_meaning.specs.Program.{Expr, Read, Arg, Value, Ref, Whole, Temp, Slot}
use Rattle.pawn_meaning.specs.Program as code
use Rattle.pawn_meaning.specs.Scope.{Extent, extent, known_extent, rest_extent, IsLine, HasInner}
use Rattle.pawn_meaning.specs.Scope as program
use Rattle.pawn_meaning.specs.ValidExprs.{ArgAgrees, IsNoChar, IsValidScalar, IsValidArray}
use Rattle.pawn_meaning.specs.ValidExprs.{IsValidArg}
use Rattle.names_rules.specs.Verdict.{Verdict}
use Rattle.types_rules.specs.Typed.{Typed, Form, line}
use Rattle.types_rules.specs.Typed as typed
use Rattle.types_rules.specs.Around.{Around, Param}
use Rattle.types_rules.specs.NamesAndNumbers.{size_or_zero}
use Rattle.types_rules.proofs.VerdictLaws.{Holds, stands_itself, breaks_holds, holds_after}
use Rattle.types_rules.proofs.VerdictLaws.{holds_also}
use Rattle.types_rules.specs.Given.{Given, keeps_constant, value_in, plain_given, cell_of_memory}
use Rattle.types_rules.specs.Given.{place_in, reference_given, first_fits, fits, fitting}
use Rattle.types_rules.specs.Given.{is_open_line, rest_from, PassedArray, passed, array_argument}
use Rattle.types_rules.specs.Given.{array_given, given_by, given_rule, rest_place, rest_arg}
use Rattle.types_laws.specs.Meant.{IsReached}
use Rattle.types_laws.specs.Known.{array_slot, slot_by, slot_of, KnowsAround}
use Rattle.types_laws.specs.ValidExpressions.{IsValidForm}
use Rattle.pawn_cells.proofs.CellLaws.{small_cell}
use Rattle.types_laws.proofs.Facts.{when_holds}
use Rattle.types_laws.proofs.BasicLaws.{Sound, SoundCell, first_size_cell}
use Rattle.types_laws.proofs.AssignmentLaws.{same_extent, sent_valid}

-- an argument for a slot
pub record SoundGiven (scope : program.Scope) (slot : Slot) (given : Given) : Type 0 where
  pub valid : IsValidArg scope given.code
  pub agrees : ArgAgrees scope slot given.code
  pub size : IsCell (pos given.size)

record SoundRef (scope : program.Scope) (p : Scalar) : Type 0 where
  pub no_char : IsNoChar p
  pub place : IsValidScalar scope p

-- an array for a parameter that reaches so far
record SoundArray (scope : program.Scope) (wanted : Extent) (a : Array) : Type 0 where
  pub valid : IsValidArray scope a
  pub agrees : ArgAgrees scope (array_slot wanted.inner wanted.first) (Whole a)

record SoundPassed (scope : program.Scope) (wanted : Extent) (it : PassedArray) : Type 0 where
  pub array : SoundArray scope wanted it.array
  pub size : IsCell (pos it.size)

module _ (scope : program.Scope) (cx : Around) (known : KnowsAround scope.program cx) where
  value_in_sound : (at : At) (form : Form) → IsValidForm scope form
      → Holds (SoundCell scope) (value_in at form)
  value_in_sound at (typed.Value e) p = stands_itself _ _ (record { code = p })
  value_in_sound at (typed.Place a constant) p = stands_itself _ _ (record { code = p })
  value_in_sound at (typed.Whole a reach constant) p = breaks_holds _ _
  value_in_sound at (typed.Literal object cells) p = breaks_holds _ _

  plain_sound : (at : At) (param : Param) (x : Typed) → Sound scope x
      → Holds (SoundGiven scope code.ScalarSlot) (plain_given cx at param x)
  unfolding plain_given
  plain_sound at param x p =
      holds_after (value_in_sound at x.form p.form) (λ e t.
      stands_itself _ _ (record {
        valid = sent_valid scope cx known param.tags x.tag x.at e t.code;
        agrees = tt;
        size = small_cell 1 (omega arith);
      }))

  -- ---- references

  memory_sound : (at : At) (p : Scalar) → IsValidScalar scope p
      → Holds (SoundRef scope) (cell_of_memory at p)
  memory_sound at (Global o) h = stands_itself _ _ (record { no_char = tt; place = h })
  memory_sound at (Own s) h = stands_itself _ _ (record { no_char = tt; place = h })
  memory_sound at (Through s) h = stands_itself _ _ (record { no_char = tt; place = h })
  memory_sound at (Element a e) h = stands_itself _ _ (record { no_char = tt; place = h })
  memory_sound at (Char a e) h = breaks_holds _ _

  place_in_sound : (at : At) (wanted : Bool) (form : Form) → IsValidForm scope form
      → Holds (SoundRef scope) (place_in at wanted form)
  place_in_sound at wanted (typed.Value e) h = breaks_holds _ _
  place_in_sound at wanted (typed.Place p constant) h =
      holds_also (keeps_constant at constant wanted) (memory_sound at p h)
  place_in_sound at wanted (typed.Whole a reach constant) h = breaks_holds _ _
  place_in_sound at wanted (typed.Literal object cells) h = breaks_holds _ _

  reference_sound : (at : At) (param : Param) (x : Typed) → Sound scope x
      → Holds (SoundGiven scope code.ReferenceSlot) (reference_given cx at param x)
  unfolding reference_given
  reference_sound at param x p =
      holds_after (place_in_sound at param.constant x.form p.form) (λ a t.
      stands_itself _ _ (record {
        valid = (t.no_char, t.place);
        agrees = tt;
        size = small_cell 1 (omega arith);
      }))

  -- ---- arrays

  rest_inner : (whole : Option Extent) → IsLine whole → HasInner [] (rest_extent whole)
  rest_inner None h = absurd h
  rest_inner (Some whole) h = h

  rest_agrees : (first : Option ℕ) (inner : List ℕ) (a : Array) (e : Expr)
      → is_open_line first inner ≡ true → IsLine (extent scope a)
      → ArgAgrees scope (array_slot inner first) (Whole (From a e))
  rest_agrees None [] a e same h = rest_inner (extent scope a) h
  rest_agrees None (size ∷ inner) a e same h = absurd (let no : ⊥ = cc in no)
  rest_agrees (Some first) inner a e same h = absurd (let no : ⊥ = cc in no)

  rest_sound : (at : At) (wanted : Extent) (p : Scalar) → IsValidScalar scope p
      → Holds (SoundArray scope wanted) (rest_from at wanted p)
  rest_sound at wanted (Global o) h = breaks_holds _ _
  rest_sound at wanted (Own s) h = breaks_holds _ _
  rest_sound at wanted (Through s) h = breaks_holds _ _
  rest_sound at wanted (Char a e) h = breaks_holds _ _
  rest_sound at wanted (Element a e) h =
      when_holds (is_open_line wanted.first wanted.inner) (λ same.
      stands_itself _ (From a e) (record {
        valid = h;
        agrees = rest_agrees wanted.first wanted.inner a e same h.0;
      }))
      (breaks_holds _ _)

  by_first : (first other : Option ℕ) (inner : List ℕ) (reach : Extent) (a : Array)
      → first_fits first other ≡ true → reach.first ≡ other → inner ≡ reach.inner
      → extent scope a ≡ Some reach → ArgAgrees scope (array_slot inner first) (Whole a)
  by_first None other inner reach a e same inner_same reaches =
      subst (λ (it : Option Extent). HasInner inner it) (sym reaches) (sym inner_same)
  by_first (Some size) None inner reach a e same inner_same reaches =
      absurd (let no : ⊥ = cc in no)
  by_first (Some size) (Some first) inner reach a e same inner_same reaches =
      let sizes : size ≡ first = eqb-true size first e in
      reaches
      ∙ ap (λ (it : Extent). Some it)
      (same_extent reach.first (Some size) reach.inner inner
      (same ∙ ap (λ (n : ℕ). Some n) (sym sizes)) (sym inner_same))

  fits_agrees : (wanted reach : Extent) (a : Array) → fits wanted reach ≡ true
      → extent scope a ≡ Some reach
      → ArgAgrees scope (array_slot wanted.inner wanted.first) (Whole a)
  fits_agrees wanted reach a e reaches =
      let parts = and_parts (bytes_eq wanted.inner reach.inner)
      (first_fits wanted.first reach.first) e in
      by_first wanted.first reach.first wanted.inner reach a parts.1 refl
      ((bytes_eq-Decides wanted.inner reach.inner).0 parts.0) reaches

  fitting_sound : (at : At) (wanted reach : Extent) (a : Array) → IsReached scope a reach
      → Holds (SoundArray scope wanted) (fitting at wanted reach a)
  fitting_sound at wanted reach a h =
      when_holds (fits wanted reach) (λ e.
      stands_itself _ a (record {
        valid = h.array;
        agrees = fits_agrees wanted reach a e h.reaches;
      }))
      (breaks_holds _ _)

  passed_sound : (wanted : Extent) (a : Verdict Array) (size : ℕ)
      → Holds (SoundArray scope wanted) a → IsCell (pos size)
      → Holds (SoundPassed scope wanted) (passed a size)
  passed_sound wanted a size h c =
      holds_after h (λ it p. stands_itself _ _ (record { array = p; size = c }))

  array_argument_sound : (at : At) (keeps : Bool) (wanted : Extent) (form : Form)
      → IsValidForm scope form
      → Holds (SoundPassed scope wanted) (array_argument at keeps wanted form)
  array_argument_sound at keeps wanted (typed.Value e) h = breaks_holds _ _
  array_argument_sound at keeps wanted (typed.Place p constant) h =
      holds_also (keeps_constant at constant keeps)
      (passed_sound wanted (rest_from at wanted p) 0 (rest_sound at wanted p h)
      (small_cell 0 (omega arith)))
  array_argument_sound at keeps wanted (typed.Whole a reach constant) h =
      holds_also (keeps_constant at constant keeps)
      (passed_sound wanted (fitting at wanted reach a) (size_or_zero reach.first)
      (fitting_sound at wanted reach a h) (first_size_cell reach.first h.cells.first))
  array_argument_sound at keeps wanted (typed.Literal object cells) h =
      passed_sound wanted (fitting at wanted (line cells) (code.Object object)) cells
      (fitting_sound at wanted (line cells) (code.Object object) h) h.cells.first

  array_given_sound : (at : At) (param : Param) (wanted : Extent) (x : Typed) → Sound scope x
      → Holds (SoundGiven scope (array_slot wanted.inner wanted.first))
      (array_given cx at param wanted x)
  unfolding array_given
  array_given_sound at param wanted x p =
      holds_after (array_argument_sound at param.constant wanted x.form p.form) (λ it t.
      stands_itself _ _ (record {
        valid = t.array.valid;
        agrees = t.array.agrees;
        size = t.size;
      }))

  -- ---- all kinds

  by_reference : (b : Bool) (at : At) (param : Param) (x : Typed) → Sound scope x
      → Holds (SoundGiven scope (slot_by b None))
      (if b then reference_given cx at param x else plain_given cx at param x)
  by_reference true at param x p = reference_sound at param x p
  by_reference false at param x p = plain_sound at param x p

  given_by_sound : (at : At) (param : Param) (reach : Option Extent) (x : Typed) → Sound scope x
      → Holds (SoundGiven scope (slot_by param.reference reach)) (given_by cx at param reach x)
  given_by_sound at param None x p = by_reference param.reference at param x p
  given_by_sound at param (Some wanted) x p = array_given_sound at param wanted x p

  pub given_sound : (at : At) (param : Param) (x : Typed) → Sound scope x
      → Holds (SoundGiven scope (slot_of param)) (given_rule cx at param x)
  given_sound at param x p = given_by_sound at param param.extent x p

  -- ---- `...`

  rest_place_valid : (constant : Bool) (p : Scalar) → IsValidScalar scope p
      → IsValidArg scope (rest_place constant p)
  rest_place_valid true p h = h
  rest_place_valid false (Global o) h = (tt, h)
  rest_place_valid false (Own s) h = (tt, h)
  rest_place_valid false (Through s) h = (tt, h)
  rest_place_valid false (Element a e) h = (tt, h)
  rest_place_valid false (Char a e) h = h

  pub rest_valid : (form : Form) → IsValidForm scope form → IsValidArg scope (rest_arg form)
  rest_valid (typed.Value e) h = h
  rest_valid (typed.Place p constant) h = rest_place_valid constant p h
  rest_valid (typed.Whole a reach constant) h = h.array
  rest_valid (typed.Literal object cells) h = h.array
