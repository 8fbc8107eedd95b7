-- The code of assignments and updates, by how their place and their value come. A value that
-- is known, or stands at a direct place, needs no register but the one it comes in: so the place's
-- address need not wait for it on the stack.
use Rattle.std.specs.Prelude.{Bool, true, false, List, ◌∷◌, ◌++◌, Option, None}
use Rattle.std.specs.Prelude.{Some}
use Rattle.pawn_cells.specs.declared.operator.Operator.{Operator}
use Rattle.pawn_cells.specs.declared.operator.Operator.TheVariants as between
use Rattle.pawn_meaning.specs.Program.{Scalar}
use Rattle.amx_ops.specs.declared.op.Op.TheVariants as op
use Rattle.gen_sim.specs.Items.{Item}
use Rattle.gen_sim.specs.SimpleCode.{alone, taking, operator_code, const_code, both_code}
use Rattle.gen_sim.specs.AccessCode.{load_code, store_code, assign_code}
use Rattle.gen_sim.specs.DirectCode.{Direct, direct_load, direct_store, direct_changed}
use Rattle.gen_sim.specs.OperandCode.{Right, Known, Placed, Waiting, loaded_code, placed_code}
use Rattle.gen_sim.specs.OperandCode.{known_code}

-- ---- assignments

-- the address goes to ALT, and the value is loaded and stored
abbrev pub quiet_assign : Scalar → (place load : List Item) → List Item
quiet_assign p place load = place ++ (alone op.MoveAlt ∷ (load ++ store_code p))

-- at an address, by how the value comes
abbrev pub assign_there : Right → Scalar → (place value : List Item) → List Item
assign_there (Known v) p place value = quiet_assign p place (const_code v)
assign_there (Placed d) p place value = quiet_assign p place (direct_load d)
assign_there Waiting p place value = assign_code p place value

-- or by the place's own instruction
abbrev pub assign_by : Option Direct → Right → Scalar → (place value : List Item) → List Item
assign_by None how p place value = assign_there how p place value
assign_by (Some d) how p place value = value ++ direct_store d

-- ---- updates

-- whether an operator's instruction with a known operand leaves ALT as it is
abbrev pub leaves_alt : Operator → Bool
leaves_alt between.Multiply = true
leaves_alt between.Divide = false
leaves_alt between.Remainder = false
leaves_alt between.Add = true
leaves_alt between.Subtract = true
leaves_alt between.ShiftLeft = true
leaves_alt between.ShiftRight = false
leaves_alt between.ShiftUnsigned = true
leaves_alt between.And = false
leaves_alt between.Xor = false
leaves_alt between.Or = false
leaves_alt between.Equal = true
leaves_alt between.NotEqual = false

-- what was there is loaded, some items make the new value of it, and it is stored: the address is
-- in ALT meanwhile
abbrev pub kept_update : Scalar → (place change : List Item) → List Item
kept_update p place change = place ++ (alone op.MoveAlt ∷ (load_code p ++ (change ++ store_code p)))

-- or waits on the stack
abbrev pub pushed_update : Scalar → (place change : List Item) → List Item
pushed_update p place change =
    place ++ (alone op.PushPri
    ∷ (load_code p ++ (change ++ (alone op.PopAlt ∷ store_code p))))

-- by a known operand
abbrev pub known_update : Bool → Scalar → (place change : List Item) → List Item
known_update true p place change = kept_update p place change
known_update false p place change = pushed_update p place change

-- an operand that was made while the address waited goes to ALT, and the address waits again
abbrev pub waited_update : Scalar → (place value change : List Item) → List Item
waited_update p place value change =
    both_code place value (alone op.PushAlt ∷ alone op.Xchg
    ∷ (load_code p ++ (change ++ (alone op.PopAlt ∷ store_code p))))

-- at an address, by how the operand comes
abbrev pub update_there : Right → Scalar → Operator → (place value : List Item) → List Item
update_there (Known v) p o place value = known_update (leaves_alt o) p place (known_code o v)
update_there (Placed d) p o place value = pushed_update p place (placed_code o d)
update_there Waiting p o place value = waited_update p place value (loaded_code o)

-- by the place's own instructions
abbrev pub update_directly : Direct → Right → Operator → List Item → List Item
update_directly d (Known v) o value = direct_load d ++ (known_code o v ++ direct_store d)
update_directly d (Placed k) o value = direct_load d ++ (placed_code o k ++ direct_store d)
update_directly d Waiting o value = value ++ direct_changed d (operator_code o)

-- each
abbrev pub update_by : Option Direct → Right → Scalar → Operator → (place value : List Item)
    → List Item
update_by None how p o place value = update_there how p o place value
update_by (Some d) how p o place value = update_directly d how o value
