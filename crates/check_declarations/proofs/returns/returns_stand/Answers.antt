use Rattle.std.proofs.Common.{map, drop, ap, arith}
use Rattle.std.proofs.lemmas.Result.{err_from_is_err_and}
use Rattle.check_locals.specs.StoodView.{returned_view}
use Rattle.check_declarations.specs.DoneView.{bodied_view}
use Rattle.check_declarations.proofs.MarkLaws.{marked_begins, marked_room, walk_more, walk_fails}
use Rattle.check_declarations.proofs.MarkLaws.{walk_all}
use Rattle.check_declarations.proofs.returns.returns_stand.Goals as goal

pub loop-it-init : goal.loop-it-init
loop-it-init c =
    marked_begins (map bodied_view c.args.bodies.now) c.in_ok-marks.marks.items
    c.in_ok-marks.ensures

pub loop-it-preserved : goal.loop-it-preserved
loop-it-preserved c =
    walk_more bodied_view c.args.bodies.now c.loop-it.it-index c.it-item.result
    c.make_room.new.marks.items c.index.result.now _ (map returned_view c.as_slice.result.now)
    (marked_room (map bodied_view c.args.bodies.now)
    (map bodied_view (drop c.loop-it.it-index c.args.bodies.now)) c.loop-it.marks.items
    c.make_room.new.marks.items
    c.loop-it.invariant c.in_ok-make_room.ensures.same)
    (omega arith) c.it-item.is c.in_ok-make_room.ensures.room c.index.ensures
    (ap (map returned_view) c.as_slice.ensures) c.in_ok-marks-2.ensures

pub returns-in_err-marks-2 : goal.returns-in_err-marks-2
returns-in_err-marks-2 c =
    let p =
    err_from_is_err_and c.from_residual-in_err-marks-2.result
    c.from_residual-in_err-marks-2.ensures.1 in
    rw (p.1, p.2)
    (walk_fails bodied_view c.args.bodies.now c.loop-it.it-index c.it-item.result
    c.make_room.new.marks.items c.index.result.now (map returned_view c.as_slice.result.now) _
    (marked_room (map bodied_view c.args.bodies.now)
    (map bodied_view (drop c.loop-it.it-index c.args.bodies.now)) c.loop-it.marks.items
    c.make_room.new.marks.items
    c.loop-it.invariant c.in_ok-make_room.ensures.same)
    (omega arith) c.it-item.is c.in_ok-make_room.ensures.room c.index.ensures
    (ap (map returned_view) c.as_slice.ensures) c.in_err-marks-2.ensures)

pub returns : goal.returns
returns c =
    walk_all bodied_view c.args.bodies.now c.loop-it.it-index c.loop-it.marks.items _
    c.loop-it.invariant (omega arith)
