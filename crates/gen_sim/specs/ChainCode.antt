-- The code of chains of comparisons: each operand in the middle is evaluated once, and waits while
-- its link is tested.
use Rattle.std.specs.Prelude.{◌+◌, ℕ, Bool, List, [], ◌∷◌, ◌++◌, Option, None, Some}
use Rattle.pawn_cells.specs.declared.operator.Comparison.{Comparison}
use Rattle.pawn_cells.specs.declared.operator.Comparison.TheVariants as comparison
use Rattle.amx_ops.specs.declared.op.Op.{Op}
use Rattle.amx_ops.specs.declared.op.Op.TheVariants as op
use Rattle.gen_sim.specs.Items.{Item}
use Rattle.gen_sim.specs.SimpleCode.{alone}
use Rattle.gen_sim.specs.JumpCode.{jump_to}
use Rattle.gen_sim.specs.CallCode.{two_code}
use Rattle.gen_sim.specs.OperandCode.{Right, Known, Placed, Waiting, bring_code}

-- of the left operand in ALT and the right one in PRI
abbrev pub compare_op : Comparison → Op
compare_op comparison.Less = op.Sgrtr
compare_op comparison.LessEqual = op.Sgeq
compare_op comparison.Greater = op.Sless
compare_op comparison.GreaterEqual = op.Sleq

-- of the left operand in PRI and the right one in ALT
abbrev pub loaded_compare : Comparison → Op
loaded_compare comparison.Less = op.Sless
loaded_compare comparison.LessEqual = op.Sleq
loaded_compare comparison.Greater = op.Sgrtr
loaded_compare comparison.GreaterEqual = op.Sgeq

-- by how the right operand was brought
abbrev pub compare_by : Right → Comparison → Op
compare_by (Known v) o = loaded_compare o
compare_by (Placed d) o = loaded_compare o
compare_by Waiting o = compare_op o

-- by the machine, or by a user's operator
abbrev pub link_code : Comparison → Option ℕ → Bool → List Item
link_code o None swapped = alone (compare_op o) ∷ []
link_code o (Some f) swapped = two_code f swapped

-- the last link, with the operand before it in PRI
abbrev pub last_link_code : (operand link : List Item) → List Item
last_link_code operand link = alone op.PushPri ∷ (operand ++ (alone op.PopAlt ∷ link))

-- by how its right operand comes; a user's operator takes both from the stack
abbrev pub last_link_by : Comparison → Option ℕ → Bool → Right → (operand : List Item) → List Item
last_link_by o None swapped how operand = bring_code how operand ++ alone (compare_by how o) ∷ []
last_link_by o (Some f) swapped how operand = last_link_code operand (two_code f swapped)

-- a link with others behind it: its right operand waits, and is the left one of the next
abbrev pub middle_link_code : (fail : ℕ) → (operand link others : List Item) → List Item
middle_link_code fail operand link others =
    alone op.PushPri ∷ (operand ++
    (alone op.PopAlt ∷ alone op.PushPri
    ∷ (link ++ (jump_to op.Jzer fail ∷ alone op.PopPri ∷ others))))

-- where a link that doesn't hold leads to, behind links that end at an address
abbrev pub fail_at : ℕ → ℕ
fail_at q = q + 4 + 4 + 8

-- behind several links: 1 or 0, and 0 where one didn't hold, whose right operand waits
abbrev pub chain_end_code : ℕ → List Item
chain_end_code q =
    alone op.Not ∷ alone op.Not ∷ jump_to op.Jump (fail_at q + 4) ∷ alone op.PopAlt ∷ []
