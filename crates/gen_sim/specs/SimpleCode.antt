-- The code of nodes without a jump, of which each is its own step between the codes of its parts. A
-- value comes in PRI; while a second part runs, what the first one gave waits on the stack, and
-- then goes to ALT.
use Rattle.std.specs.Prelude.{zero, suc, ℤ, pos, negsuc, List, [], ◌∷◌, ◌++◌, Option, None, Some}
use Rattle.pawn_cells.specs.declared.operator.Prefix.{Prefix}
use Rattle.pawn_cells.specs.declared.operator.Prefix.TheVariants as before
use Rattle.pawn_cells.specs.declared.operator.Operator.{Operator}
use Rattle.pawn_cells.specs.declared.operator.Operator.TheVariants as between
use Rattle.amx_ops.specs.declared.op.Op.{Op}
use Rattle.amx_ops.specs.declared.op.Op.TheVariants as op
use Rattle.gen_sim.specs.Items.{Item, Plain, with}

-- an instruction without an operand, and one with it
abbrev pub alone : Op → Item
alone operation = Plain (with operation (pos 0))

-- an instruction with its operand
abbrev pub taking : Op → ℤ → Item
taking operation v = Plain (with operation v)

-- ---- operators

-- the instruction that changes PRI as a prefix operator does
abbrev pub prefix_op : Prefix → Op
prefix_op before.Not = op.Not
prefix_op before.Invert = op.Invert
prefix_op before.Negate = op.Neg

-- the left operand is in ALT, the right one in PRI
abbrev pub operator_code : Operator → List Item
operator_code between.Multiply = alone op.Smul ∷ []
operator_code between.Divide = alone op.SdivAlt ∷ []
operator_code between.Remainder = alone op.SdivAlt ∷ alone op.MovePri ∷ []
operator_code between.Add = alone op.Add ∷ []
operator_code between.Subtract = alone op.SubAlt ∷ []
operator_code between.ShiftLeft = alone op.Xchg ∷ alone op.Shl ∷ []
operator_code between.ShiftRight = alone op.Xchg ∷ alone op.Sshr ∷ []
operator_code between.ShiftUnsigned = alone op.Xchg ∷ alone op.Shr ∷ []
operator_code between.And = alone op.And ∷ []
operator_code between.Xor = alone op.Xor ∷ []
operator_code between.Or = alone op.Or ∷ []
operator_code between.Equal = alone op.Eq ∷ []
operator_code between.NotEqual = alone op.Neq ∷ []

-- ---- expressions

-- a cell that is known goes to PRI: 0 by an instruction without an operand
abbrev pub const_code : ℤ → List Item
const_code (pos zero) = alone op.ZeroPri ∷ []
const_code (pos (suc n)) = taking op.ConstPri (pos (suc n)) ∷ []
const_code (negsuc n) = taking op.ConstPri (negsuc n) ∷ []

-- and so to ALT
abbrev pub alt_code : ℤ → List Item
alt_code (pos zero) = alone op.ZeroAlt ∷ []
alt_code (pos (suc n)) = taking op.ConstAlt (pos (suc n)) ∷ []
alt_code (negsuc n) = taking op.ConstAlt (negsuc n) ∷ []

-- an expression that folds is a constant; any other has its node's items
abbrev pub folded : Option ℤ → List Item → List Item
folded None items = items
folded (Some v) items = const_code v

-- a prefix operator, on its operand's value
abbrev pub unary_code : Prefix → List Item → List Item
unary_code o e = e ++ alone (prefix_op o) ∷ []

-- two parts, and what is done while the cell that the first one gave waits, with the second one's
-- in PRI
abbrev pub waiting_code : (first second tail : List Item) → List Item
waiting_code first second tail = first ++ (alone op.PushPri ∷ (second ++ tail))

-- or with it in ALT
abbrev pub both_code : (first second last : List Item) → List Item
both_code first second last = waiting_code first second (alone op.PopAlt ∷ last)

-- the first value isn't used
abbrev pub comma_code : (first second : List Item) → List Item
comma_code first second = first ++ second
