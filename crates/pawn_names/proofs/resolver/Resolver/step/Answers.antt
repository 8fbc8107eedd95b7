use Rattle.std.proofs.Common.{refl}
use Rattle.std.proofs.lemmas.Result.{err_from_is_err_and}
use Rattle.pawn_names.proofs.BehindLaws.{opens_done, closes_done, mentions_done}
use Rattle.pawn_names.proofs.resolver.Resolver.step.Goals as goal

pub returns-in_err-enter-in-Opens : goal.returns-in_err-enter-in-Opens
returns-in_err-enter-in-Opens c = λ around marks h.
    let p = err_from_is_err_and c.from_residual.result c.from_residual.ensures.1 in
    rw (p.1, p.2) (record { cause = tt })

pub returns-in_ok-enter-in-Opens : goal.returns-in_ok-enter-in-Opens
returns-in_ok-enter-in-Opens c = λ around marks h.
    rw c.in-Opens.is (opens_done around marks c.args.self.now _ h c.in_ok-enter-in-Opens.ensures
    refl refl)

pub returns-in-Closes : goal.returns-in-Closes
returns-in-Closes c =
    λ around marks h. rw c.in-Closes.is
    (closes_done around marks c.args.self.now _ h c.leave.ensures refl refl)

pub returns-in-Mentions : goal.returns-in-Mentions
returns-in-Mentions c =
    λ around marks h. rw c.in-Mentions.is (mentions_done around marks c.args.self.now h _)

pub returns-in-Uses : goal.returns-in-Uses
returns-in-Uses c = λ around marks h. rw c.in-Uses.is (c.uses.ensures around marks h)

pub returns-in-Declares : goal.returns-in-Declares
returns-in-Declares c = λ around marks h. rw c.in-Declares.is (c.declares.ensures around marks h)
