use Rattle.std.proofs.Common.{◌∙◌, sym, ap, subst, slice_get, slice_set}
use Rattle.std.proofs.Common.{◌+◌}
use Rattle.pawn_usage.specs.IsGraph.{plain}
use Rattle.pawn_usage.specs.Marks.{IsAtCall, stage}
use Rattle.pawn_usage.proofs.MarkLaws.{none_clash, some_is}
use Rattle.pawn_usage.proofs.StepLaws.{looks_past, looks_at_done, looks_at_fresh, comes_back}
use Rattle.pawn_usage.proofs.search.Search.look.Goals as goal

pub returns-in_default : goal.returns-in_default
returns-in_default c =
    looks_past (plain c.args.graph.now) c.args.self.now c.set.new.self c.args.top c.args.mark
    c.args.callee c.requires.call (λ g e. absurd (none_clash g (sym c.in_default.is ∙ e)))
    c.set.ensures.marks c.set.ensures.path

pub returns-in_default-mark : goal.returns-in_default-mark
returns-in_default-mark c =
    looks_past (plain c.args.graph.now) c.args.self.now c.set-in_default-mark.new.self c.args.top
    c.args.mark c.args.callee c.requires.call
    (λ g e. ap (slice_get c.args.self.now.marks.items)
    (sym (some_is c.in-Some.callee g (sym c.in-Some.is ∙ e)))
    ∙ (sym c.mark.ensures ∙ c.in_default-mark.is))
    c.set-in_default-mark.ensures.marks c.set-in_default-mark.ensures.path

pub returns-in_ok-push-in-Fresh : goal.returns-in_ok-push-in-Fresh
returns-in_ok-push-in-Fresh c =
    looks_at_fresh (plain c.args.graph.now) c.args.self.now c.set-in-Fresh.new.self c.args.top
    c.args.mark c.in-Some.callee c.in-Fresh.count c.in-Some-mark.called
    (subst (λ o. IsAtCall (plain c.args.graph.now) c.args.self.now c.args.top c.args.mark o)
    c.in-Some.is c.requires.call)
    (sym c.mark.ensures ∙ c.in-Some-mark.is) c.in-Fresh.is
    (c.set-in-Fresh.ensures.marks
    ∙ ap (λ m. slice_set c.args.self.now.marks.items c.in-Some.callee m) c.with_progress.ensures)
    (c.set-in-Fresh.ensures.path ∙ c.in_ok-push-in-Fresh.ensures.items)

pub returns-in_ok-push-in-Open : goal.returns-in_ok-push-in-Open
returns-in_ok-push-in-Open c =
    comes_back (plain c.args.graph.now) c.args.self.now c.push-in-Open.new.self.items c.args.top
    c.args.mark c.in-Some.callee c.in-Some-mark.called
    (subst (λ o. IsAtCall (plain c.args.graph.now) c.args.self.now c.args.top c.args.mark o)
    c.in-Some.is c.requires.call)
    (sym c.mark.ensures ∙ c.in-Some-mark.is) (ap stage c.in-Open.is)
    c.in_ok-push-in-Open.ensures.items

pub returns-in-Some-checked_add : goal.returns-in-Some-checked_add
returns-in-Some-checked_add c =
    looks_at_done (plain c.args.graph.now) c.args.self.now c.set-in-Closed.new.self c.args.top
    c.args.mark c.in-Some.callee c.in-Some-checked_add.cells c.in-Some-mark.called
    (subst (λ o. IsAtCall (plain c.args.graph.now) c.args.self.now c.args.top c.args.mark o)
    c.in-Some.is c.requires.call)
    (sym c.mark.ensures ∙ c.in-Some-mark.is) c.in-Closed.is
    (c.in-Some-checked_add.ensures.1 ∙ ap (λ n. n + c.in-Some-mark.called.cells) c.need.ensures)
    (c.set-in-Closed.ensures.marks
    ∙ ap (λ m. slice_set c.args.self.now.marks.items c.args.top m) c.with_call.ensures)
    c.set-in-Closed.ensures.path
