use Rattle.std.proofs.Common.{◌≡◌, take, map, pos}
use Rattle.check_calls.proofs.text_cells.plain_text.Given as goal

abbrev pub invariant-loop-byte : goal.invariant-loop-byte
invariant-loop-byte l = l.cells ≡ map pos (take l.byte-index l.fn.bytes)
