use Rattle.std.proofs.Common.{◌≡◌, drop}
use Rattle.std.specs.List.{flat_map}
use Rattle.host_script.specs.Script.{bytes_of}
use Rattle.host_script.specs.Characters.{has_zero}
use Rattle.host_script.proofs.arguments.has_packed_zero.Given as goal

abbrev pub invariant-loop-cell : goal.invariant-loop-cell
invariant-loop-cell l =
    has_zero (flat_map bytes_of l.cells) ≡ has_zero (flat_map bytes_of (drop l.cell-index l.cells))
