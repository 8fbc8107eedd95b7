use Rattle.std.proofs.Common.{◌≡◌, map, drop}
use Rattle.script_reader.specs.Rules.{is_known}
use Rattle.script_reader.proofs.rules.is_known.Given as goal

abbrev pub invariant-loop-word : goal.invariant-loop-word
invariant-loop-word l =
    is_known (map (λ k. k.now) l.known) l.key
    ≡ is_known (map (λ k. k.now) (drop l.word-index l.known)) l.key
