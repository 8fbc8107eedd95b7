-- Valid expressions: each number names a thing of its kind, and each array and argument fits where
-- it stands.
use Rattle.std.specs.Prelude.{◌≡◌, ◌⊎◌, ◌<◌, ℕ, pos, negsuc, List, [], ◌∷◌, Option, None, Some}
use Rattle.std.specs.Prelude.{IsSome, IfSome, length, replicate, slice_get}
use Rattle.pawn_cells.specs.Cells.{IsCell}
use Rattle.pawn_meaning.specs.Program.{Scalar, Global, Own, Through, Element, Char, Array, Object}
use Rattle.pawn_meaning.specs.Program.{SlotArray, ParamArray, Row, From, Expr, Const, Read, Unary}
use Rattle.pawn_meaning.specs.Program.{Binary, Chain, And, Or, Cond, Assign, Update, UpdateBy, Step}
use Rattle.pawn_meaning.specs.Program.{StepBy, Copy, Operate, OperateOne, Call, Native, Seq, Links}
use Rattle.pawn_meaning.specs.Program.{no_links, then_link, Arg, Value, Ref, Whole, Temp, Args}
use Rattle.pawn_meaning.specs.Program.{no_args, then_arg, Perhaps, Absent, Present, Slot}
use Rattle.pawn_meaning.specs.Program.{ScalarSlot, ReferenceSlot, ArraySlot, OpenSlot, StaticObject}
use Rattle.pawn_meaning.specs.Program.{Function, Program}
use Rattle.pawn_meaning.specs.Scope.{Scope, IsMade, IsInSight, extent, known_extent, IsLine}
use Rattle.pawn_meaning.specs.Scope.{HasRows, HasInner, HasCells}

-- the function with this number takes these parameters
pub record Takes (program : Program) (f : ℕ) (params : List Slot) : Type 0 where
  pub function : Function
  pub there : slice_get program.functions f ≡ Some function
  pub params_are : function.params ≡ params

-- a user's operator takes so many plain parameters
abbrev pub IsOperator : Scope → ℕ → ℕ → Type 0
IsOperator scope count f = Takes scope.program f (replicate count ScalarSlot)

-- an object of one cell
abbrev pub IsCellObject : Option StaticObject → Type 0
IsCellObject None = ⊥
IsCellObject (Some object) = object.sizes ≡ 1 ∷ []

-- no packed character, which no reference leads to
abbrev pub IsNoChar : Scalar → Type 0
IsNoChar (Global o) = Unit {0}
IsNoChar (Own s) = Unit {0}
IsNoChar (Through s) = Unit {0}
IsNoChar (Element a e) = Unit {0}
IsNoChar (Char a e) = ⊥

module _ (scope : Scope) where
  -- an argument is of its parameter's kind: an array has as many dimensions as the parameter, and
  -- each size that the parameter gives
  abbrev pub ArgAgrees : Slot → Arg → Type 0
  ArgAgrees ScalarSlot (Value e) = Unit {0}
  ArgAgrees ScalarSlot (Ref p) = ⊥
  ArgAgrees ScalarSlot (Whole a) = ⊥
  ArgAgrees ScalarSlot (Temp e) = ⊥
  ArgAgrees ReferenceSlot (Value e) = ⊥
  ArgAgrees ReferenceSlot (Ref p) = Unit {0}
  ArgAgrees ReferenceSlot (Whole a) = ⊥
  ArgAgrees ReferenceSlot (Temp e) = Unit {0}
  ArgAgrees (ArraySlot sizes) (Value e) = ⊥
  ArgAgrees (ArraySlot sizes) (Ref p) = ⊥
  ArgAgrees (ArraySlot sizes) (Whole a) = extent scope a ≡ known_extent sizes
  ArgAgrees (ArraySlot sizes) (Temp e) = ⊥
  ArgAgrees (OpenSlot inner) (Value e) = ⊥
  ArgAgrees (OpenSlot inner) (Ref p) = ⊥
  ArgAgrees (OpenSlot inner) (Whole a) = HasInner inner (extent scope a)
  ArgAgrees (OpenSlot inner) (Temp e) = ⊥

  -- the arguments agree with the parameters in number and kind
  abbrev pub ArgsAgree : List Slot → Args → Type 0
  ArgsAgree [] no_args = Unit {0}
  ArgsAgree [] (then_arg a args) = ⊥
  ArgsAgree (slot ∷ slots) no_args = ⊥
  ArgsAgree (slot ∷ slots) (then_arg a args) = ArgAgrees slot a × ArgsAgree slots args

  -- places, arrays, expressions, links and arguments
  abbrev mutual
    -- a place: an object or a slot of one cell, or a part of an array of one dimension
    pub IsValidScalar : Scalar → Type 0
    IsValidScalar (Global o) = IsCellObject (slice_get scope.program.objects o)
    IsValidScalar (Own s) = (slice_get scope.slots s ≡ Some ScalarSlot) × IsInSight scope s
    IsValidScalar (Through s) = (slice_get scope.slots s ≡ Some ReferenceSlot) × (s < scope.params)
    IsValidScalar (Element a e) = IsLine (extent scope a) × IsValidArray a × IsValidExpr e
    IsValidScalar (Char a e) = IsLine (extent scope a) × IsValidArray a × IsValidExpr e

    -- an array: an object, a slot that is made, a parameter, or a part of such
    pub IsValidArray : Array → Type 0
    IsValidArray (Object o) = IsSome (extent scope (Object o))
    IsValidArray (SlotArray s) = IsSome (extent scope (SlotArray s)) × IsMade scope s
    IsValidArray (ParamArray s known) =
        IsSome (extent scope (ParamArray s known)) × (s < scope.params)
    IsValidArray (Row a e) = HasRows (extent scope a) × IsValidArray a × IsValidExpr e
    IsValidArray (From a e) = IsLine (extent scope a) × IsValidArray a × IsValidExpr e

    -- numbers are cells, and each place, array and argument in it fits
    pub IsValidExpr : Expr → Type 0
    IsValidExpr (Const v) = IsCell v
    IsValidExpr (Read p) = IsValidScalar p
    IsValidExpr (Unary op e) = IsValidExpr e
    IsValidExpr (Binary op l r) = IsValidExpr l × IsValidExpr r
    IsValidExpr (Chain e links) = ¬ (links ≡ no_links) × IsValidExpr e × AreValidLinks links
    IsValidExpr (And l r) = IsValidExpr l × IsValidExpr r
    IsValidExpr (Or l r) = IsValidExpr l × IsValidExpr r
    IsValidExpr (Cond c a b) = IsValidExpr c × IsValidExpr a × IsValidExpr b
    IsValidExpr (Assign p e) = IsValidScalar p × IsValidExpr e
    IsValidExpr (Update p op e) = IsValidScalar p × IsValidExpr e
    IsValidExpr (UpdateBy p f swapped e convert) =
        IsOperator scope 2 f × IfSome convert (IsOperator scope 1) × IsValidScalar p × IsValidExpr e
    IsValidExpr (Step p delta prefix) = ((delta ≡ pos 1) ⊎ (delta ≡ negsuc 0)) × IsValidScalar p
    IsValidExpr (StepBy p f prefix) = IsOperator scope 1 f × IsValidScalar p
    IsValidExpr (Copy to from cells) =
        HasCells cells (extent scope to) × HasCells cells (extent scope from) × IsValidArray to
        × IsValidArray from
    IsValidExpr (Operate f l r swapped) = IsOperator scope 2 f × IsValidExpr l × IsValidExpr r
    IsValidExpr (OperateOne f e) = IsOperator scope 1 f × IsValidExpr e
    IsValidExpr (Call f args) =
        (params : List Slot) × Takes scope.program f params × ArgsAgree params args
        × AreValidArgs args
    IsValidExpr (Native n args) = (n < length scope.program.natives) × AreValidArgs args
    IsValidExpr (Seq a b) = IsValidExpr a × IsValidExpr b

    -- a user's operator in a link takes both operands
    pub AreValidLinks : Links → Type 0
    AreValidLinks no_links = Unit {0}
    AreValidLinks (then_link op e f swapped links) =
        IfSome f (IsOperator scope 2) × IsValidExpr e × AreValidLinks links

    -- an argument; no reference leads to a packed character
    pub IsValidArg : Arg → Type 0
    IsValidArg (Value e) = IsValidExpr e
    IsValidArg (Ref p) = IsNoChar p × IsValidScalar p
    IsValidArg (Whole a) = IsValidArray a
    IsValidArg (Temp e) = IsValidExpr e

    -- each argument of a call by itself
    pub AreValidArgs : Args → Type 0
    AreValidArgs no_args = Unit {0}
    AreValidArgs (then_arg a args) = IsValidArg a × AreValidArgs args

  -- an absent expression is valid
  abbrev pub IsValidPerhaps : Perhaps → Type 0
  IsValidPerhaps Absent = Unit {0}
  IsValidPerhaps (Present e) = IsValidExpr e
