-- SWITCH and its table, behind a value that ends at an address, before any of its cells is known.
use Rattle.std.specs.Prelude.{◌+◌, ◌*◌, ℕ, pos, List, [], ◌∷◌, replicate}
use Rattle.pawn_meaning.specs.Program.{Cases}
use Rattle.amx_ops.specs.declared.op.Op.TheVariants as op
use Rattle.gen_sim.specs.Items.{Item}
use Rattle.gen_sim.specs.SimpleCode.{taking}
use Rattle.gen_laws.specs.SwitchCode.{cases_values, table_item}

-- its size is known: a record for each value, all of whose cells are 0 so far
abbrev pub unled_table : ℕ → Cases → List Item
unled_table p cases =
    taking op.Switch (pos (p + 8))
    ∷ table_item (cases_values cases) 0 (replicate (2 * cases_values cases) (pos 0)) ∷ []
