use Rattle.std.proofs.Common.{◌≡◌, ◌*◌, ◌^◌, ◌≤◌, take, pos, ◌-ℤ◌}
use Rattle.pawn_cells.specs.Cells.{wrap}
use Rattle.amx_compact.specs.Spelled.{group_sum, sign, GoesOn}
use Rattle.amx_compact.proofs.read.read_cell.Given as goal

abbrev pub invariant-loop-index : goal.invariant-loop-index
invariant-loop-index l = record {
  within : l.index ≤ 5;
  goes_on : GoesOn (take l.index l.bytes);
  sum : l.sum ≡ wrap (pos (group_sum (take l.index l.bytes)) -ℤ pos (sign l.bytes * 128 ^ l.index));
}
