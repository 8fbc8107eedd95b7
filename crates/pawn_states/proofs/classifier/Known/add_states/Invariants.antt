use Rattle.std.proofs.Common.{◌≡◌, drop}
use Rattle.pawn_states.specs.Known as known
use Rattle.pawn_states.proofs.classifier.Known.add_states.Given as goal

abbrev pub invariant-loop-state : goal.invariant-loop-state
invariant-loop-state l =
    known.with_states l.self (drop l.state-index l.states) l.number
    ≡ known.with_states l.initial.self l.states l.number
