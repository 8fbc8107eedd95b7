-- What sets ALT to an array's address, as code has it; and what stands before an index.
use Rattle.std.specs.Prelude.{List, [], ◌∷◌, ◌++◌, Option, None, Some, option_map}
use Rattle.amx_ops.specs.declared.op.Op.TheVariants as op
use Rattle.gen_sim.specs.Items.{Item}
use Rattle.gen_sim.specs.SimpleCode.{alone}
use Rattle.gen_sim.specs.BaseCode.{Base}
use Rattle.gen_expr.specs.declared.base.Base as held
use Rattle.gen_expr.specs.declared.base.Base.TheVariants as at

-- by what the array is
abbrev pub base_view : held.Base → Base
base_view (at.Object v) = record { sets = op.ConstAlt; operand = v }
base_view (at.Own v) = record { sets = op.AddrAlt; operand = v }
base_view (at.Param v) = record { sets = op.LoadSAlt; operand = v }

-- where there is one
abbrev pub perhaps_base : Option held.Base → Option Base
perhaps_base b = option_map base_view b

-- the array's address waits, where no instruction sets it behind the index
abbrev pub array_part : Option Base → List Item → List Item
array_part None array = array ++ alone op.PushPri ∷ []
array_part (Some b) array = []
