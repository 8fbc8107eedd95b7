use Rattle.std.proofs.Common.{map, take, Ok}
use Rattle.pawn_outside.specs.Said.{Said}
use Rattle.host_script.specs.declared.event.Seen.TheVariants.{Cell}
use Rattle.host_script.specs.Text.{arguments_text}
use Rattle.host_script.proofs.lines.say_plain.Given as goal

abbrev pub invariant-loop-cell : goal.invariant-loop-cell
invariant-loop-cell g l =
    let sink = g.S.Sink in
    Said sink.taken sink.faults sink.has_room l.initial.out l.out
    (arguments_text (map Cell (take l.cell-index l.cells))) (Ok tt)
