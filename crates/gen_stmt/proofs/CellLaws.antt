-- The cells of a slot's own.
use Rattle.std.proofs.Common.{◌≡◌, ℕ, List, map, option_map, slice_get, sym}
use Rattle.pawn_arrays.specs.Sizes.{sizes, inner_sizes, cell_count}
use Rattle.pawn_arrays.specs.declared.shape.Shape.{Shape}
use Rattle.pawn_meaning.specs.View.{slot_view}
use Rattle.pawn_meaning.specs.declared.program.Slot.{Slot}
use Rattle.gen_sim.proofs.LayoutLaws.{extent_is}
use Rattle.gen_sim.specs.PlaceItems.{cells_by}
use Rattle.gen_expr.proofs.ViewedLaws as viewed

pub shape_cells : (shape : Shape) → cell_count shape ≡ cells_by (sizes shape)
shape_cells shape = sym (extent_is shape.first (inner_sizes shape.second shape.third))

pub slots_seen : (slots : List Slot) (s : ℕ)
    → slice_get (map slot_view slots) s ≡ option_map slot_view (slice_get slots s)
slots_seen slots s = viewed.slots_seen slots s
