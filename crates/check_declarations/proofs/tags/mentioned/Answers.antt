use Rattle.std.proofs.Common.{arith}
use Rattle.check_declarations.proofs.TagLaws.{mention_more, mention_all}
use Rattle.check_declarations.proofs.tags.mentioned.Goals as goal

pub loop-i-preserved : goal.loop-i-preserved
loop-i-preserved c =
    mention_more c.args.marks.now c.loop-i.i c.index-marks-i.result c.loop-i.names
    c.add_mention.new.names c.loop-i.invariant
    (omega arith) c.index-marks-i.is c.in_ok-add_mention.ensures

pub returns : goal.returns
returns c = mention_all c.args.marks.now c.loop-i.i c.loop-i.names c.loop-i.invariant (omega arith)
