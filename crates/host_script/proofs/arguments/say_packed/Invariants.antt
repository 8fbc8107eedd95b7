use Rattle.std.proofs.Common.{take, Ok}
use Rattle.std.specs.List.{flat_map}
use Rattle.pawn_outside.specs.Said.{Said}
use Rattle.host_script.specs.Script.{bytes_of}
use Rattle.host_script.specs.Characters.{characters_text}
use Rattle.host_script.proofs.CharacterLaws.{Passed}
use Rattle.host_script.proofs.arguments.say_packed.Given as goal

abbrev pub invariant-loop-cell : goal.invariant-loop-cell
invariant-loop-cell g l =
    let sink = g.S.Sink in
    Said sink.taken sink.faults sink.has_room l.initial.out l.out
    (characters_text (flat_map bytes_of (take l.cell-index l.cells))) (Ok tt)
    × Passed bytes_of l.cells l.cell-index
