use Rattle.std.proofs.Common.{take, ap, ◌∙◌, arith}
use Rattle.names_sight.specs.MarkView.{marks_view}
use Rattle.names_rules.specs.Around.{tags_of}
use Rattle.pawn_names.proofs.MarksLaws.{marks_more, marks_all}
use Rattle.pawn_names.proofs.mentioned_tags.tags_of.Goals as goal

pub loop-i-preserved : goal.loop-i-preserved
loop-i-preserved c =
    c.in_ok-mention.ensures (marks_view (take c.loop-i.i c.args.marks.now)) c.loop-i.invariant
    ∙ ap tags_of (marks_more c.args.marks.now c.loop-i.i c.index-marks-i.result
    (omega arith) c.index-marks-i.is)

pub returns : goal.returns
returns c = c.loop-i.invariant ∙ ap tags_of (marks_all c.args.marks.now c.loop-i.i (omega arith))
