-- The code of statements without a loop. Locals are made where they stand, and dropped where they
-- are left.
use Rattle.std.specs.Prelude.{◌+◌, ◌*◌, ℕ, pos, List, [], ◌∷◌, ◌++◌}
use Rattle.pawn_cells.specs.Cells.{cell_of}
use Rattle.pawn_meaning.specs.Program.{Slot}
use Rattle.amx_ops.specs.declared.op.Op.TheVariants as op
use Rattle.gen_sim.specs.Pieces.{total}
use Rattle.gen_sim.specs.Items.{Item, past}
use Rattle.gen_sim.specs.Fits.{locals_of}
use Rattle.gen_sim.specs.SimpleCode.{alone, taking}
use Rattle.gen_sim.specs.JumpCode.{jump_to, cond_code}
use Rattle.gen_sim.specs.Here.{Here}

-- the cells of the locals of these slots
abbrev pub made_cells : List Slot → List ℕ → ℕ
made_cells slots made = total (locals_of 0 slots made)

-- they are dropped
abbrev pub leave_code : List Slot → List ℕ → List Item
leave_code slots [] = []
leave_code slots (s ∷ made) = taking op.Stack (pos (4 * made_cells slots (s ∷ made))) ∷ []

-- what a block made is dropped at its end
abbrev pub block_code : List Slot → List ℕ → List Item → List Item
block_code slots made stmts = stmts ++ leave_code slots made

-- the locals that were made inside the loop are dropped before the jump
abbrev pub break_code : Here → List Item
break_code here = leave_code here.scope.slots here.since ++ jump_to op.Jump here.exits.broke ∷ []

-- so they are before a further pass
abbrev pub continue_code : Here → List Item
continue_code here =
    leave_code here.scope.slots here.since ++ jump_to op.Jump here.exits.continued ∷ []

-- all locals of the body are dropped, and RETN drops the frame
abbrev pub return_code : Here → List Item → List Item
return_code here value =
    value ++ (leave_code here.scope.slots here.scope.made ++ alone op.Retn ∷ [])

-- HALT 1 ends the run with the value in PRI and its tag in ALT
abbrev pub exit_code : ℕ → List Item → List Item
exit_code tag value = value ++ (taking op.ConstAlt (cell_of tag) ∷ taking op.Halt (pos 1) ∷ [])

-- HALT 2 where it is 0
abbrev pub assert_code : ℕ → List Item → List Item
assert_code begin value = cond_code begin value [] (taking op.Halt (pos 2) ∷ [])

-- behind the first of two parts that begins at an address, and the jump over the second one
abbrev pub else_at : ℕ → (first : List Item) → ℕ
else_at p first = past p first + 8

-- one of two parts, by a condition whose jumps lead to the second one
abbrev pub if_code : (begin : ℕ) → (condition first second : List Item) → List Item
if_code begin condition first second =
    condition
    ++ (first
    ++ (jump_to op.Jump (past (else_at (past begin condition) first) second) ∷ second))
