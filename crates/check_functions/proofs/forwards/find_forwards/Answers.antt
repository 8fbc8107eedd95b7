use Rattle.std.proofs.Common.{◌≤◌, length, map, arith}
use Rattle.check_source.specs.HeadingView.{heading_view}
use Rattle.check_functions.proofs.AtLaws.{past}
use Rattle.check_functions.proofs.ForwardLaws.{none_told, told_within}
use Rattle.check_functions.proofs.forwards.find_forwards.Goals as goal

pub loop-i-init : goal.loop-i-init
loop-i-init c = none_told _ _

pub loop-i-preserved : goal.loop-i-preserved
loop-i-preserved c = c.with_place-forwards.ensures c.loop-i.invariant

pub returns : goal.returns
returns c =
    let long : length c.as_slice-i-end.result.now ≤ c.loop-i.i = omega arith in
    told_within _ _ c.loop-i.i (length (map heading_view c.args.source.now.headings)) _ _
    (past heading_view c.args.source.now.headings c.as_slice-i-end.result.now c.loop-i.i
    c.as_slice-i-end.ensures long) c.loop-i.invariant
