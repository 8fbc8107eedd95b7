use Rattle.std.proofs.Common.{◌≡◌, ◌+◌, ◌*◌, ◌++◌, ◌<◌, ℕ, ℤ, drop, length, slice_index_or}
use Rattle.pawn_cells.specs.Cells.{IsCell}
use Rattle.amx_format.specs.Layout.{cells}
use Rattle.amx_image.proofs.buffer.ImageBuffer.put_cells.Given as goal

abbrev pub invariant-loop-index : goal.invariant-loop-index
invariant-loop-index l = record {
  bytes : l.self.bytes ++ cells (drop l.index l.row) ≡ l.initial.self.bytes ++ cells l.row;
  room : l.self.room ≡ l.initial.self.room;
  size : length l.self.bytes ≡ length l.initial.self.bytes + 4 * l.index;
  fits : (k : ℕ) (d : ℤ) → k < l.index → IsCell (slice_index_or l.row k d);
}
