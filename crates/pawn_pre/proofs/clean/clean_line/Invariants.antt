use Rattle.std.proofs.Common.{◌≡◌, drop}
use Rattle.pawn_pre.specs.Scan.{before, scan, mode_at}
use Rattle.pawn_pre.proofs.clean.clean_line.Given as goal

abbrev pub invariant-loop-byte : goal.invariant-loop-byte
invariant-loop-byte l =
    before l.out (scan l.mode (drop l.byte-index l.line)) ≡ scan (mode_at l.fn.was_open) l.fn.line
