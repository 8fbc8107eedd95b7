use Rattle.std.proofs.Common.{rules, w32, FitsSigned}
use Rattle.std.proofs.lemmas.Int.{to_z-of_z}
use Rattle.std.proofs.lemmas.Result.{err_from_is_err_and}
use Rattle.pawn_tree.specs.View.{tree_view}
use Rattle.pawn_front.proofs.CheckLaws.{tree_fails, tree_named}
use Rattle.pawn_front.proofs.checking.check_tree.Goals as goal

pub returns-in_err-checked : goal.returns-in_err-checked
returns-in_err-checked c =
    let fits : FitsSigned w32 c.args.dynamic = search rules in
    let p = err_from_is_err_and c.from_residual.result c.from_residual.ensures.1 in
    rw (p.1, p.2)
    (tree_fails (tree_view c.args.tree.now) c.args.dynamic c.in_err-checked.field-0.0
    (rw (to_z-of_z w32 c.args.dynamic fits) at c.in_err-checked.ensures))

pub returns-in-Ok : goal.returns-in-Ok
returns-in-Ok c =
    let fits : FitsSigned w32 c.args.dynamic = search rules in
    tree_named (tree_view c.args.tree.now) c.args.dynamic
    (record { checked = c.in_ok-checked.checked; names = c.in-Ok.names })
    (rw (to_z-of_z w32 c.args.dynamic fits) at c.in_ok-checked.ensures)
    c.in-Ok.ensures.names c.in-Ok.ensures.program
