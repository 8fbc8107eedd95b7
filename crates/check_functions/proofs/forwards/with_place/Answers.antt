use Rattle.std.proofs.Common.{ℕ, Option, sym, subst}
use Rattle.check_source.specs.SourceView.{source_view}
use Rattle.check_functions.specs.HeadsView.{heads_view}
use Rattle.check_functions.specs.EntryForwards.{TellOf}
use Rattle.check_functions.proofs.ForwardLaws.{told_passed, told_first}
use Rattle.check_functions.proofs.forwards.with_place.Goals as goal

pub returns-then-not-stands_at : goal.returns-then-not-stands_at
returns-then-not-stands_at c =
    λ h. told_passed _ _ c.args.place _ _ (sym c.if-not-stands_at.ensures) h

pub returns-in-None : goal.returns-in-None
returns-in-None c = λ h.
    told_first _ _ c.args.place c.args.forwards.other (sym c.if-not-stands_at.ensures)
    (subst (λ (o : Option ℕ). TellOf (source_view c.args.source.now)
    (heads_view c.args.heads.now) c.args.place o c.args.forwards.other) c.in-None.is h)

pub returns-in-Some : goal.returns-in-Some
returns-in-Some c = λ h.
    c.with_other.ensures (sym c.if-not-stands_at.ensures)
    (subst (λ (o : Option ℕ). TellOf (source_view c.args.source.now)
    (heads_view c.args.heads.now) c.args.place o c.args.forwards.other) c.in-Some.is h)
