use Rattle.std.proofs.Common.{take, Ok}
use Rattle.std.specs.List.{flat_map}
use Rattle.pawn_outside.specs.Said.{Said}
use Rattle.host_script.specs.Characters.{characters_text}
use Rattle.host_script.proofs.CharacterLaws.{Passed, single}
use Rattle.host_script.proofs.arguments.say_unpacked.Given as goal

abbrev pub invariant-loop-character : goal.invariant-loop-character
invariant-loop-character g l =
    let sink = g.S.Sink in
    Said sink.taken sink.faults sink.has_room l.initial.out l.out
    (characters_text (flat_map single (take l.character-index l.characters))) (Ok tt)
    × Passed single l.characters l.character-index
