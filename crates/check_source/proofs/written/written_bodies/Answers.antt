use Rattle.std.proofs.Common.{map, arith}
use Rattle.pawn_tree.specs.View.{decl_view}
use Rattle.types_rules.specs.Groups as spec
use Rattle.check_source.specs.WrittenView.{written_view}
use Rattle.check_source.proofs.GatherLaws.{gathered}
use Rattle.check_source.proofs.WrittenLaws.{written_more}
use Rattle.check_source.proofs.written.written_bodies.Goals as goal

pub loop-i-preserved : goal.loop-i-preserved
loop-i-preserved c =
    gathered decl_view spec.written written_more c.as_slice-items.result.now c.loop-i.i
    c.index-items-i.result (map written_view c.loop-i.list) _
    c.loop-i.invariant (omega arith) c.index-items-i.is c.in_ok-add_written.ensures
