-- What can be called is a function of the program with these parameters.
use Rattle.std.specs.Prelude.{◌≡◌, ℕ, Bool, List, ◌∷◌, map, replicate, Option, None, Some}
use Rattle.std.specs.Prelude.{slice_get}
use Rattle.pawn_cells.specs.Cells.{IsCell}
use Rattle.pawn_tags.specs.Overloads.{function_of}
use Rattle.pawn_tags.specs.declared.op.Op.{Op}
use Rattle.pawn_tags.specs.declared.op.Op.TheVariants as op
use Rattle.pawn_meaning.specs.Program.{Slot, ScalarSlot, ArraySlot, OpenSlot, Program}
use Rattle.pawn_meaning.specs.Scope.{Extent}
use Rattle.pawn_meaning.specs.ValidExprs.{Takes}
use Rattle.types_rules.specs.Around.{Around, Callable, Head, Param, Default, NoDefault, Always}
use Rattle.types_rules.specs.Around.{SizeOf, TagOf}
use Rattle.types_rules.specs.Params.{cell_slot}

-- ---- parameters

-- a parameter that is an array, of which the first size may be unknown
abbrev pub array_slot : List ℕ → Option ℕ → Slot
array_slot inner None = OpenSlot inner
array_slot inner (Some first) = ArraySlot (first ∷ inner)

-- by what a parameter takes
abbrev pub slot_by : Bool → Option Extent → Slot
slot_by reference None = cell_slot reference
slot_by reference (Some reach) = array_slot reach.inner reach.first

-- the slot that a parameter is
abbrev pub slot_of : Param → Slot
slot_of param = slot_by param.reference param.extent

-- a default is a cell, and none is an array's
abbrev pub IsDefault : Option Extent → Default → Type 0
IsDefault reach NoDefault = Unit {0}
IsDefault reach (Always v tag) = (reach ≡ None) × IsCell v
IsDefault reach (SizeOf p) = reach ≡ None
IsDefault reach (TagOf p) = reach ≡ None

-- a function of the program takes a head's parameters, and no others
pub record IsHeaded (program : Program) (f : ℕ) (head : Head) : Type 0 where
  pub takes : Takes program f (map slot_of head.params)
  pub no_rest : head.rest ≡ None

-- each default is a cell, and no parameter that is an array has one
pub record HasDefaults (head : Head) : Type 0 where
  pub defaults : (i : ℕ) (param : Param) → slice_get head.params i ≡ Some param
      → IsDefault param.extent param.default

-- ---- user operators

-- how many operands an operator has
abbrev pub operands : Op → ℕ
operands op.Add = 2
operands op.Sub = 2
operands op.Mul = 2
operands op.Div = 2
operands op.Rem = 2
operands op.Inc = 1
operands op.Dec = 1
operands op.Eq = 2
operands op.Neq = 2
operands op.Less = 2
operands op.Greater = 2
operands op.LessEq = 2
operands op.GreaterEq = 2
operands op.Not = 1
operands op.Neg = 1
operands op.Assign = 1

-- ---- the whole

-- operators, functions and natives are such, and so are their defaults
pub record KnowsAround (program : Program) (cx : Around) : Type 0 where
  pub operators : (it : Op) (left right f : ℕ) → function_of cx.operators it left right ≡ Some f
      → Takes program f (replicate (operands it) ScalarSlot)
  pub functions : (f : ℕ) (it : Callable) (head : Head) → slice_get cx.functions f ≡ Some it
      → it.head ≡ Some head → HasDefaults head × IsHeaded program it.number head
  pub natives : (n : ℕ) (it : Callable) (head : Head) → slice_get cx.natives n ≡ Some it
      → it.head ≡ Some head → HasDefaults head
