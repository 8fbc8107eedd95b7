use Rattle.std.proofs.Common.{◌≡◌, drop}
use Rattle.pawn_states.specs.Dispatch.{body_for}
use Rattle.pawn_states.proofs.dispatch.find_body.Given as goal

abbrev pub invariant-loop-case : goal.invariant-loop-case
invariant-loop-case l = body_for (drop l.case-index l.cases) l.state ≡ body_for l.cases l.state
