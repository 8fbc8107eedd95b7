use Rattle.std.proofs.Common.{◌≡◌, drop}
use Rattle.pawn_states.specs.Known as known
use Rattle.pawn_states.proofs.classifier.Known.add_all.Given as goal

abbrev pub invariant-loop-number : goal.invariant-loop-number
invariant-loop-number l =
    known.with_clauses l.self (drop l.number l.clauses) l.number
    ≡ known.with_clauses l.initial.self l.clauses 0
