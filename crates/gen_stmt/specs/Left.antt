-- So many locals leave the stack, which take so many cells.
use Rattle.std.specs.Prelude.{◌*◌, ℕ, zero, suc, pos, List, [], ◌∷◌}
use Rattle.amx_ops.specs.declared.op.Op.TheVariants as op
use Rattle.gen_sim.specs.Items.{Item}
use Rattle.gen_sim.specs.SimpleCode.{taking}

-- no instruction where there are none of them
abbrev pub left_code : (count cells : ℕ) → List Item
left_code zero cells = []
left_code (suc count) cells = taking op.Stack (pos (4 * cells)) ∷ []
