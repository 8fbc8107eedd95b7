use Rattle.std.proofs.Common.{map, arith}
use Rattle.pawn_tree.specs.View.{decl_view}
use Rattle.types_rules.specs.Headings as spec
use Rattle.check_source.proofs.GatherLaws.{gathered}
use Rattle.check_source.specs.HeadingView.{heading_view}
use Rattle.check_source.proofs.HeadingLaws.{headings_more}
use Rattle.check_source.proofs.headings.make_headings.Goals as goal

pub loop-i-preserved : goal.loop-i-preserved
loop-i-preserved c =
    gathered decl_view spec.headings headings_more c.as_slice-items.result.now c.loop-i.i
    c.index-items-i.result (map heading_view c.loop-i.list) _
    c.loop-i.invariant (omega arith) c.index-items-i.is c.in_ok-add_heading.ensures
