use Rattle.std.proofs.Common.{ℤ, List, drop}
use Rattle.std.specs.List.{flat_map}
use Rattle.host_script.specs.declared.event.Seen.TheVariants.{Cell}
use Rattle.host_script.specs.Text.{argument_text}
use Rattle.pawn_outside.proofs.SoFarLaws.{SoFar}
use Rattle.amx_text.proofs.line.say_cells.Given as goal

abbrev pub invariant-loop-cell : goal.invariant-loop-cell
invariant-loop-cell g l =
    let sink = g.S.Sink in
    let text = λ (cells : List ℤ). flat_map (λ cell. argument_text (Cell cell)) cells in
    SoFar sink.taken sink.faults sink.has_room l.initial.out l.out
    (text (drop l.cell-index l.cells)) (text l.cells)
