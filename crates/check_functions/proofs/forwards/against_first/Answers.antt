use Rattle.std.proofs.Common.{sym}
use Rattle.check_functions.proofs.ForwardLaws.{told_like, told_unlike}
use Rattle.check_functions.proofs.forwards.against_first.Goals as goal

pub returns-then-unlike : goal.returns-then-unlike
returns-then-unlike c =
    λ p h. told_unlike _ _ c.args.place c.args.first p (sym c.if-unlike.ensures) h

pub returns : goal.returns
returns c = λ p h. told_like _ _ c.args.place c.args.first (sym c.if-unlike.ensures) h
