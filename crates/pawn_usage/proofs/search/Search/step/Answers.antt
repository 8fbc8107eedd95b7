use Rattle.std.proofs.Common.{◌≡◌, ◌-◌, ◌∙◌, ap, subst, slice_set, length, take, arith}
use Rattle.pawn_usage.specs.IsGraph.{plain}
use Rattle.pawn_usage.specs.Marks.{IsOpenMark}
use Rattle.pawn_usage.specs.declared.search.Progress.TheVariants.{Open}
use Rattle.pawn_usage.proofs.StepLaws.{closes, leaves_as_it_is}
use Rattle.pawn_usage.proofs.search.Search.step.Goals as goal

pub returns-in-Some-default-eq0 : goal.returns-in-Some-default-eq0
returns-in-Some-default-eq0 c =
    let none_left : c.in-Some-default-eq0.field-0-1 ≡ 0 =
    omega (arith, c.in-Some-default-eq0.field-0-1-test) in
    closes (plain c.args.graph.now) c.args.self.now c.leave.new.self c.args.top
    c.in-Some-default-eq0.mark c.requires.ends c.requires.search c.in-Some-default-eq0.ensures.0
    (c.in-Some-default-eq0.ensures.1 ∙ ap (λ n. Open n) none_left)
    (c.leave.ensures.marks ∙ c.set.ensures.marks
    ∙ ap (λ m. slice_set c.args.self.now.marks.items c.args.top m) c.with_progress.ensures)
    (c.leave.ensures.path ∙ ap (λ xs. take (length xs - 1) xs) c.set.ensures.path)

pub returns-in-None : goal.returns-in-None
returns-in-None c =
    leaves_as_it_is (plain c.args.graph.now) c.args.self.now c.leave-in-None.new.self c.args.top
    c.requires.ends c.requires.search
    (subst (IsOpenMark c.args.self.now.marks.items c.args.top) c.in-None.is c.open_mark.ensures)
    c.leave-in-None.ensures.marks c.leave-in-None.ensures.path
