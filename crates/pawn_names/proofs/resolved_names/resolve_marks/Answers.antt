use Rattle.std.proofs.Common.{take, refl, subst, arith}
use Rattle.std.proofs.lemmas.Result.{err_from_is_err_and}
use Rattle.names_sight.specs.MarkView.{marks_view}
use Rattle.pawn_names.specs.Behind.{IsBehind}
use Rattle.pawn_names.proofs.MarksLaws.{marks_more, marks_all, marks_fail}
use Rattle.pawn_names.proofs.ResolvedLaws.{all_pairs}
use Rattle.pawn_names.proofs.resolved_names.resolve_marks.Goals as goal

pub loop-i-preserved : goal.loop-i-preserved
loop-i-preserved c = λ around b.
    subst (λ m. IsBehind around m c.step.new.self)
    (marks_more c.args.marks.now c.loop-i.i c.index-marks-i.result
    (omega arith) c.index-marks-i.is)
    (c.in_ok-step.ensures around (marks_view (take c.loop-i.i c.args.marks.now))
    (c.loop-i.invariant around b))

pub returns-in_err-step : goal.returns-in_err-step
returns-in_err-step c = λ around b.
    let p = err_from_is_err_and c.from_residual.result c.from_residual.ensures.1 in
    rw (p.1, p.2) (marks_fail around c.args.marks.now c.loop-i.i c.index-marks-i.result _
    (omega arith) c.index-marks-i.is
    (c.in_err-step.ensures around (marks_view (take c.loop-i.i c.args.marks.now))
    (c.loop-i.invariant around b)))

pub returns : goal.returns
returns c = λ around b.
    all_pairs around (marks_view (take c.loop-i.i c.args.marks.now))
    (marks_view c.args.marks.now) c.loop-i.resolver _
    (marks_all c.args.marks.now c.loop-i.i (omega arith))
    (c.loop-i.invariant around b) refl c.from_vec.ensures
