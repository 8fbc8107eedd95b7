use Rattle.std.proofs.Common.{ℕ, pos, List, drop}
use Rattle.std.specs.List.{flat_map}
use Rattle.host_script.specs.Text.{character_text}
use Rattle.pawn_outside.proofs.SoFarLaws.{SoFar}
use Rattle.amx_text.proofs.line.say_characters.Given as goal

abbrev pub invariant-loop-byte : goal.invariant-loop-byte
invariant-loop-byte g l =
    let sink = g.S.Sink in
    let text = λ (bytes : List ℕ). flat_map (λ byte. character_text (pos byte)) bytes in
    SoFar sink.taken sink.faults sink.has_room l.initial.out l.out (text (drop l.byte-index l.name))
    (text l.name)
