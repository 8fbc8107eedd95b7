-- What stands at a place of a table, in the view of the table.
use Rattle.std.proofs.Common.{◌≡◌, ℕ, List, map, option_map, slice_get}
use Rattle.std.proofs.lemmas.Option.{slice_get-map}
use Rattle.pawn_meaning.specs.View.{object_view, slot_view}
use Rattle.pawn_meaning.specs.declared.program.Object.{Object}
use Rattle.pawn_meaning.specs.declared.program.Slot.{Slot}

pub objects_seen : (objects : List Object) (o : ℕ)
    → slice_get (map object_view objects) o ≡ option_map object_view (slice_get objects o)
objects_seen objects o = slice_get-map object_view objects o

pub slots_seen : (slots : List Slot) (s : ℕ)
    → slice_get (map slot_view slots) s ≡ option_map slot_view (slice_get slots s)
slots_seen slots s = slice_get-map slot_view slots s
