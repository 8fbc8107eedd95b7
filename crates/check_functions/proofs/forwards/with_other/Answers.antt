use Rattle.std.proofs.Common.{ℕ, Option, Some, subst}
use Rattle.check_source.specs.SourceView.{source_view}
use Rattle.check_functions.specs.HeadsView.{heads_view}
use Rattle.check_functions.specs.EntryForwards.{TellOf}
use Rattle.check_functions.proofs.ForwardLaws.{told_kept}
use Rattle.check_functions.proofs.forwards.with_other.Goals as goal

pub returns-in-Some : goal.returns-in-Some
returns-in-Some c = λ p h. told_kept _ _ c.args.place c.args.first _ c.args.other c.in-Some.is h

pub returns-in-None : goal.returns-in-None
returns-in-None c = λ p h.
    c.against_first.ensures p
    (subst (λ (o : Option ℕ). TellOf (source_view c.args.source.now)
    (heads_view c.args.heads.now) c.args.place (Some c.args.first) o) c.in-None.is h)
