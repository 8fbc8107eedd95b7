use Rattle.std.proofs.Common.{take, Ok}
use Rattle.std.specs.List.{flat_map}
use Rattle.pawn_outside.specs.Said.{Said}
use Rattle.host_script.specs.Characters.{characters_text}
use Rattle.host_script.proofs.CharacterLaws.{Passed, single_byte}
use Rattle.host_script.proofs.arguments.say_bytes.Given as goal

abbrev pub invariant-loop-byte : goal.invariant-loop-byte
invariant-loop-byte g l =
    let sink = g.S.Sink in
    Said sink.taken sink.faults sink.has_room l.initial.out l.out
    (characters_text (flat_map single_byte (take l.byte-index l.bytes))) (Ok tt)
    × Passed single_byte l.bytes l.byte-index
