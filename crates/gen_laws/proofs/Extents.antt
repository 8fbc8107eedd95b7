-- What validity says of how far arrays reach.
use Rattle.std.proofs.Common.{◌≡◌, ℕ, List, [], ◌∷◌, Option, None, Some, refl, ap, ◌∙◌}
use Rattle.std.specs.Prelude.{IsSome}
use Rattle.pawn_meaning.specs.Program.{Array, Object, SlotArray, ParamArray, Row, From, Arg, Value}
use Rattle.pawn_meaning.specs.Program.{Ref, Whole, Temp, Args, no_args, then_arg}
use Rattle.pawn_meaning.specs.Scope.{Scope, Extent, extent, known_extent, row_extent, rest_extent}
use Rattle.pawn_meaning.specs.Scope.{IsLine, HasRows}
use Rattle.pawn_meaning.specs.ValidExprs.{IsValidArray, IsValidArg, AreValidArgs, ArgAgrees}
use Rattle.pawn_meaning.specs.ValidExprs.{ArgsAgree}
use Rattle.gen_sim.specs.ArgumentCode.{kind_with, kind_of, kinds_of}

pub record Reaching (found : Option Extent) : Type 0 where
  pub whole : Extent
  pub is : found ≡ Some whole

pub record OfLine (found : Option Extent) : Type 0 where
  pub whole : Extent
  pub is : found ≡ Some whole
  pub line : whole.inner ≡ []

pub record OfRows (found : Option Extent) : Type 0 where
  pub whole : Extent
  pub is : found ≡ Some whole
  pub next : ℕ
  pub inner : List ℕ
  pub rows : whole.inner ≡ next ∷ inner

pub of_line : (o : Option Extent) → IsLine o → OfLine o
of_line None h = elim h [ ]
of_line (Some whole) h = record { whole = whole; is = refl; line = h }

rows_by : (whole : Extent) (sizes : List ℕ) → whole.inner ≡ sizes → ¬ (sizes ≡ [])
    → OfRows (Some whole)
rows_by whole [] e h = absurd (h refl)
rows_by whole (next ∷ inner) e h =
    record { whole = whole; is = refl; next = next; inner = inner; rows = e }

pub of_rows : (o : Option Extent) → HasRows o → OfRows o
of_rows None h = elim h [ ]
of_rows (Some whole) h = rows_by whole whole.inner refl h

some_of : (o : Option Extent) → IsSome o → Reaching o
some_of None h = cc
some_of (Some whole) h = record { whole = whole; is = refl }

-- a valid array reaches somewhere
pub reaching : (scope : Scope) (a : Array) → IsValidArray scope a → Reaching (extent scope a)
reaching scope (Object o) h = some_of (extent scope (Object o)) h
reaching scope (SlotArray s) h = some_of (extent scope (SlotArray s)) h.0
reaching scope (ParamArray s known) h = some_of (extent scope (ParamArray s known)) h.0
reaching scope (Row a e) h =
    let r = of_rows (extent scope a) h.0 in
    record {
      whole = record { first = Some r.next; inner = r.inner };
      is = ap row_extent r.is
          ∙ ap known_extent r.rows;
    }
reaching scope (From a e) h =
    let r = of_line (extent scope a) h.0 in
    record { whole = record { first = None; inner = r.whole.inner }; is = ap rest_extent r.is }

-- ---- arguments of a native agree with their own kinds

whole_agrees : (scope : Scope) (a : Array) (first : Option ℕ) (inner : List ℕ)
    → extent scope a ≡ Some (record { first = first; inner = inner })
    → ArgAgrees scope (kind_with first inner) (Whole a)
whole_agrees scope a None inner e = rw e refl
whole_agrees scope a (Some size) inner e = e

kind_agrees : (scope : Scope) (a : Arg) → IsValidArg scope a → ArgAgrees scope (kind_of scope a) a
kind_agrees scope (Value e) h = tt
kind_agrees scope (Ref p) h = tt
kind_agrees scope (Whole a) h =
    let r = reaching scope a h in rw r.is (whole_agrees scope a r.whole.first r.whole.inner r.is)
kind_agrees scope (Temp e) h = tt

pub kinds_agree : (scope : Scope) (args : Args) → AreValidArgs scope args
    → ArgsAgree scope (kinds_of scope args) args
kinds_agree scope no_args h = tt
kinds_agree scope (then_arg a args) h = (kind_agrees scope a h.0, kinds_agree scope args h.1)
