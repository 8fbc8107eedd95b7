-- A place that an instruction reaches by itself, as code has it.
use Rattle.std.specs.Prelude.{Option, None, Some, option_map}
use Rattle.gen_sim.specs.DirectCode.{Direct, data_cell, frame_cell, pointed_cell}
use Rattle.gen_expr.specs.declared.direct.Direct as held
use Rattle.gen_expr.specs.declared.direct.Direct.TheVariants as at

-- by the way to its cell
abbrev pub direct_view : held.Direct → Direct
direct_view (at.Object v) = data_cell v
direct_view (at.Own v) = frame_cell v
direct_view (at.Through v) = pointed_cell v

-- where there is one
abbrev pub perhaps_direct : Option held.Direct → Option Direct
perhaps_direct d = option_map direct_view d
