-- What one instruction pushes: a cell that is known, what stands at a direct place, or an address
-- that needs no index. All else comes to PRI and is pushed from there.
use Rattle.std.specs.Prelude.{◌+◌, ◌*◌, ℤ, pos, List, [], ◌∷◌, ◌++◌, Option, None, Some}
use Rattle.pawn_meaning.specs.Program.{Scalar, Global, Own, Through, Element, Char, Array, Object}
use Rattle.pawn_meaning.specs.Program.{SlotArray, ParamArray, Row, From, Expr}
use Rattle.pawn_meaning.specs.Scope.{Scope}
use Rattle.amx_ops.specs.declared.op.Op.{Op}
use Rattle.amx_ops.specs.declared.op.Op.TheVariants as op
use Rattle.gen_sim.specs.Items.{Item}
use Rattle.gen_sim.specs.SimpleCode.{alone, taking}
use Rattle.gen_sim.specs.DirectCode.{Direct}
use Rattle.gen_sim.specs.OperandCode.{Right, Known, Placed, Waiting, right_of}
use Rattle.gen_sim.specs.PlaceItems.{object_address, slot_offset}

-- an instruction that pushes a direct place's cell, where there is such, with its operand
abbrev pub cell_push : Direct → Option Op → Option (Op × ℤ)
cell_push d None = None
cell_push d (Some operation) = Some (operation, d.operand)

-- the one that pushes a value, by how it comes
abbrev pub right_push : Right → Option (Op × ℤ)
right_push (Known v) = Some (op.PushC, v)
right_push (Placed d) = cell_push d d.pushes
right_push Waiting = None

-- the one that pushes an expression's value
abbrev pub value_push : Scope → Expr → Option (Op × ℤ)
value_push scope e = right_push (right_of scope e)

-- the one that pushes the address of a place: a parameter that refers has it in its cell
abbrev pub place_push : Scope → Scalar → Option (Op × ℤ)
place_push scope (Global o) = Some (op.PushC, object_address scope.program o)
place_push scope (Own s) = Some (op.PushAdr, slot_offset scope s)
place_push scope (Through s) = Some (op.PushS, pos (12 + 4 * s))
place_push scope (Element a e) = None
place_push scope (Char a e) = None

-- the one that pushes the address of an array
abbrev pub array_push : Scope → Array → Option (Op × ℤ)
array_push scope (Object o) = Some (op.PushC, object_address scope.program o)
array_push scope (SlotArray s) = Some (op.PushAdr, slot_offset scope s)
array_push scope (ParamArray s known) = Some (op.PushS, pos (12 + 4 * s))
array_push scope (Row a e) = None
array_push scope (From a e) = None

-- what comes to PRI is pushed from there
abbrev pub pushed_code : List Item → List Item
pushed_code part = part ++ alone op.PushPri ∷ []

-- a value or an address is pushed by its instruction, or else from PRI
abbrev pub pushed_by : Option (Op × ℤ) → List Item → List Item
pushed_by None part = pushed_code part
pushed_by (Some it) part = taking it.0 it.1 ∷ []

-- a left operand waits on the stack where the right one doesn't come by itself
abbrev pub left_by : Right → Option (Op × ℤ) → List Item → List Item
left_by (Known v) push left = left
left_by (Placed d) push left = left
left_by Waiting push left = pushed_by push left
