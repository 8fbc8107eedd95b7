-- The code of an operator behind its left operand, which is in PRI, by how the right one comes: known,
-- it is an operand of the operator's own instruction, or goes to ALT; a direct place's cell goes to
-- ALT; for all else the left one waits on the stack.
use Rattle.std.specs.Prelude.{ℤ, List, [], ◌∷◌, ◌++◌, Option, None, Some}
use Rattle.pawn_cells.specs.declared.operator.Operator.{Operator}
use Rattle.pawn_cells.specs.declared.operator.Operator.TheVariants as between
use Rattle.pawn_cells.specs.Cells.{neg}
use Rattle.pawn_meaning.specs.Program.{Expr, Read}
use Rattle.pawn_meaning.specs.Scope.{Scope}
use Rattle.pawn_meaning.specs.Fold.{fold}
use Rattle.amx_ops.specs.declared.op.Op.TheVariants as op
use Rattle.gen_sim.specs.Items.{Item}
use Rattle.gen_sim.specs.SimpleCode.{alone, taking, alt_code, operator_code}
use Rattle.gen_sim.specs.DirectCode.{Direct, direct_of}

-- how a right operand comes
pub data Right : Type 0 where
  -- it folds to a cell
  Known : ℤ → Right
  -- it is what stands at a place that an instruction reaches by itself
  Placed : Direct → Right
  -- the left one waits meanwhile
  Waiting : Right

-- what folds is known, whether it is a place or not
abbrev pub right_by : Option ℤ → Option Direct → Right
right_by (Some v) place = Known v
right_by None (Some d) = Placed d
right_by None None = Waiting

-- the direct place that an expression reads
abbrev pub read_place : Scope → Expr → Option Direct
read_place scope (Read p) = direct_of scope p
read_place scope e = None

-- how an expression comes that is a right operand
abbrev pub right_of : Scope → Expr → Right
right_of scope e = right_by (fold e) (read_place scope e)

-- an operator, with the left operand in PRI and the right one in ALT
abbrev pub loaded_code : Operator → List Item
loaded_code between.Multiply = alone op.Smul ∷ []
loaded_code between.Divide = alone op.Sdiv ∷ []
loaded_code between.Remainder = alone op.Sdiv ∷ alone op.MovePri ∷ []
loaded_code between.Add = alone op.Add ∷ []
loaded_code between.Subtract = alone op.Sub ∷ []
loaded_code between.ShiftLeft = alone op.Shl ∷ []
loaded_code between.ShiftRight = alone op.Sshr ∷ []
loaded_code between.ShiftUnsigned = alone op.Shr ∷ []
loaded_code between.And = alone op.And ∷ []
loaded_code between.Xor = alone op.Xor ∷ []
loaded_code between.Or = alone op.Or ∷ []
loaded_code between.Equal = alone op.Eq ∷ []
loaded_code between.NotEqual = alone op.Neq ∷ []

-- an operator with a known right operand: one instruction, where there is such a one
abbrev pub known_code : Operator → ℤ → List Item
known_code between.Multiply v = taking op.SmulC v ∷ []
known_code between.Add v = taking op.AddC v ∷ []
known_code between.Subtract v = taking op.AddC (neg v) ∷ []
known_code between.ShiftLeft v = taking op.ShlCPri v ∷ []
known_code between.ShiftUnsigned v = taking op.ShrCPri v ∷ []
known_code between.Equal v = taking op.EqCPri v ∷ []
known_code o v = alt_code v ++ loaded_code o

-- one with the cell of a direct place, which goes to ALT
abbrev pub placed_code : Operator → Direct → List Item
placed_code o d = taking d.loads_alt d.operand ∷ loaded_code o

-- behind the left operand
abbrev pub operate_by : Operator → Right → (right : List Item) → List Item
operate_by o (Known v) right = known_code o v
operate_by o (Placed d) right = placed_code o d
operate_by o Waiting right = right ++ (alone op.PopAlt ∷ operator_code o)

-- what brings the right operand while the left one is in PRI: behind it the left one is in PRI and
-- the right one in ALT, or the other way round where the left one waited
abbrev pub bring_code : Right → (right : List Item) → List Item
bring_code (Known v) right = taking op.ConstAlt v ∷ []
bring_code (Placed d) right = taking d.loads_alt d.operand ∷ []
bring_code Waiting right = alone op.PushPri ∷ (right ++ alone op.PopAlt ∷ [])
