use Rattle.std.proofs.Common.{refl, sym, ap, map, ◌∙◌}
use Rattle.pawn_tree.specs.View.{decl_view, tree_view}
use Rattle.check_nodes.specs.ContextView.{around_view}
use Rattle.check_source.specs.SourceView.{source_view}
use Rattle.check_locals.specs.PointView.{point_view}
use Rattle.pawn_check.specs.TreeParts.{declared}
use Rattle.pawn_check.proofs.DeclaredLaws.{declared_is, never_fallen, fails_of}
use Rattle.pawn_check.proofs.declared.declared_around.Goals as goal

pub returns-in-Ok : goal.returns-in-Ok
returns-in-Ok c =
    sym (declared_is (source_view c.args.reading.now.source) (tree_view c.args.tree.now) _
    (around_view c.args.cx.now)
    (point_view c.in_ok-point.point) (map decl_view c.as_slice.result.now) c.requires.cx
    c.in_ok-point.ensures
    (ap (map decl_view) c.as_slice.ensures) refl)
    ∙ c.in-Ok.ensures

pub fault_of-requires : goal.fault_of-requires
fault_of-requires c =
    never_fallen (source_view c.args.reading.now.source)
    (tree_view c.args.tree.now) _ c.in-Err.fault
    c.faults_are_given.ensures.declarations c.requires.read.source
    (declared_is (source_view c.args.reading.now.source) (tree_view c.args.tree.now) _
    (around_view c.args.cx.now)
    (point_view c.in_ok-point.point) (map decl_view c.as_slice.result.now) c.requires.cx
    c.in_ok-point.ensures
    (ap (map decl_view) c.as_slice.ensures) refl)
    c.in-Err.ensures

pub returns : goal.returns
returns c =
    fails_of _ (declared (source_view c.args.reading.now.source) (tree_view c.args.tree.now))
    c.in-Err.fault c.fault_of.result
    (declared_is (source_view c.args.reading.now.source) (tree_view c.args.tree.now) _
    (around_view c.args.cx.now)
    (point_view c.in_ok-point.point) (map decl_view c.as_slice.result.now) c.requires.cx
    c.in_ok-point.ensures
    (ap (map decl_view) c.as_slice.ensures) refl)
    c.fault_of.ensures c.in-Err.ensures
