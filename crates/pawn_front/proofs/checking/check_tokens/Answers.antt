use Rattle.std.proofs.Common.{rules, w32, FitsSigned}
use Rattle.std.proofs.lemmas.Int.{to_z-of_z}
use Rattle.std.proofs.lemmas.Result.{err_from_is_err_and}
use Rattle.pawn_tree.specs.View.{tree_view}
use Rattle.pawn_front.proofs.CheckLaws.{checks_tree, no_tree_checked}
use Rattle.pawn_front.proofs.checking.check_tokens.Goals as goal

pub returns-in_err-tree : goal.returns-in_err-tree
returns-in_err-tree c =
    let p = err_from_is_err_and c.from_residual.result c.from_residual.ensures.1 in
    rw (p.1, p.2)
    (no_tree_checked c.args.tokens.now.list c.args.dynamic c.in_err-tree.field-0.0
    c.in_err-tree.ensures)

pub returns : goal.returns
returns c =
    let fits : FitsSigned w32 c.args.dynamic = search rules in
    checks_tree c.args.tokens.now.list (tree_view c.in_ok-tree.tree) c.args.dynamic
    c.check_tree.result c.in_ok-tree.ensures
    (rw (to_z-of_z w32 c.args.dynamic fits) at c.check_tree.ensures)
