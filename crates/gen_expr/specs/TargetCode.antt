-- The parts of the code of a place that is read or written, by whether an instruction reaches it by
-- itself, and by how the value comes.
use Rattle.std.specs.Prelude.{◌+◌, ℕ, ℤ, pos, negsuc, Bool, true, false, List, [], ◌∷◌, ◌++◌}
use Rattle.std.specs.Prelude.{Option, None, Some}
use Rattle.pawn_meaning.specs.Program.{Scalar, Char}
use Rattle.amx_ops.specs.declared.op.Op.TheVariants as op
use Rattle.gen_sim.specs.Items.{Item}
use Rattle.gen_sim.specs.SimpleCode.{alone, operator_code, const_code}
use Rattle.gen_sim.specs.AccessCode.{load_code, store_code, stepped_code}
use Rattle.gen_sim.specs.DirectCode.{Direct, direct_load, direct_store, direct_changed, direct_step}
use Rattle.gen_sim.specs.DirectCode.{direct_effect}
use Rattle.gen_sim.specs.OperandCode.{Right, Known, Placed, Waiting, known_code, loaded_code}
use Rattle.gen_sim.specs.ChangeCode.{leaves_alt}
use Rattle.gen_sim.specs.OperandCode.{placed_code}
use Rattle.pawn_cells.specs.declared.operator.Operator.{Operator}

-- its address, where it needs one
abbrev pub address_part : Option Direct → List Item → List Item
address_part None place = place
address_part (Some d) place = []

-- a value beside an address, which waits in ALT where the value is quiet, and else on the stack
abbrev pub beside_part : Right → List Item → List Item
beside_part (Known v) value = alone op.MoveAlt ∷ const_code v
beside_part (Placed d) value = alone op.MoveAlt ∷ direct_load d
beside_part Waiting value = alone op.PushPri ∷ value

-- a value for it
abbrev pub value_part : Option Direct → Right → ℕ → (ℕ → List Item) → List Item
value_part None how begin value = beside_part how (value (begin + 4))
value_part (Some d) how begin value = value begin

-- what stores the value
abbrev pub write_part : Option Direct → Right → Scalar → List Item
write_part None (Known v) p = store_code p
write_part None (Placed d) p = store_code p
write_part None Waiting p = alone op.PopAlt ∷ store_code p
write_part (Some d) how p = direct_store d

-- an operand of an update, where it isn't quiet
abbrev pub operand_part : Option Direct → Right → ℕ → (ℕ → List Item) → List Item
operand_part o (Known v) begin value = []
operand_part o (Placed k) begin value = []
operand_part None Waiting begin value = alone op.PushPri ∷ value (begin + 4)
operand_part (Some d) Waiting begin value = value begin

-- what makes the new value of the one in PRI
abbrev pub change_part : Operator → Right → List Item
change_part o (Known v) = known_code o v
change_part o (Placed d) = placed_code o d
change_part o Waiting = loaded_code o

-- what was there is loaded and changed, and stored to the address that waits
abbrev pub popped_part : Scalar → List Item → List Item
popped_part p change = load_code p ++ (change ++ (alone op.PopAlt ∷ store_code p))

-- by a known operand
abbrev pub known_part : Bool → Scalar → List Item → List Item
known_part true p change = alone op.MoveAlt ∷ (load_code p ++ (change ++ store_code p))
known_part false p change = alone op.PushPri ∷ popped_part p change

-- what makes a new value of what is there and the operand, and stores it
abbrev pub update_part : Option Direct → Right → Scalar → Operator → List Item
update_part None (Known v) p o = known_part (leaves_alt o) p (known_code o v)
update_part None (Placed k) p o = alone op.PushPri ∷ popped_part p (placed_code o k)
update_part None Waiting p o =
    alone op.PopAlt ∷ alone op.PushAlt ∷ alone op.Xchg ∷ popped_part p (loaded_code o)
update_part (Some d) (Known v) p o = direct_load d ++ (known_code o v ++ direct_store d)
update_part (Some d) (Placed k) p o = direct_load d ++ (placed_code o k ++ direct_store d)
update_part (Some d) Waiting p o = direct_changed d (operator_code o)

-- what steps it
abbrev pub step_part : Option Direct → Scalar → ℤ → Bool → List Item
step_part None p delta prefix =
    alone op.MoveAlt ∷ (load_code p ++ stepped_code p delta prefix)
step_part (Some d) p delta prefix = direct_step d delta prefix

-- what steps it at its address, where its value isn't used
abbrev pub effect_there_part : Scalar → ℤ → List Item
effect_there_part (Char a e) delta =
    alone op.MoveAlt ∷ (load_code (Char a e) ++ stepped_code (Char a e) delta true)
effect_there_part p (pos n) = alone op.IncI ∷ []
effect_there_part p (negsuc n) = alone op.DecI ∷ []

-- and by its own instruction
abbrev pub effect_part : Option Direct → Scalar → ℤ → List Item
effect_part None p delta = effect_there_part p delta
effect_part (Some d) p delta = direct_effect d d.adds delta
