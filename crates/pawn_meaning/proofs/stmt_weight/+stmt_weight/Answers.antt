use Rattle.std.proofs.Common.{◌≡◌, ◌+◌, arith}
use Rattle.std.specs.List.{sum_by}
use Rattle.std.proofs.lemmas.Grind.{common_steps}
use Rattle.pawn_meaning.specs.View.{expr_view, perhaps_view, stmt_view, else_view}
use Rattle.pawn_meaning.specs.Weight.{expr_weight, perhaps_weight, stmt_weight, else_weight}
use Rattle.pawn_meaning.specs.Weight.{ranges_weight, alone_in}
use Rattle.pawn_meaning.proofs.StmtWeightLaws.{block_weight, for_weight, switch_weight}
use Rattle.pawn_meaning.proofs.stmt_weight.+stmt_weight.Goals as goal

pub stmt_weight-returns-in-Block : goal.stmt_weight-returns-in-Block
stmt_weight-returns-in-Block t c =
    let e : stmt_weight (alone_in c.args.lean) (stmt_view c.args.stmt.now)
    ≡ 40 + sum_by (λ stmt. stmt_weight (alone_in c.args.lean) (stmt_view stmt))
    c.in-Block.stmts =
    rw c.in-Block.is (block_weight c.args.lean c.in-Block.stmts) in
    grind (arith, common_steps)

pub stmt_weight-returns-in-For : goal.stmt_weight-returns-in-For
stmt_weight-returns-in-For t c =
    let e : stmt_weight (alone_in c.args.lean) (stmt_view c.args.stmt.now)
    ≡ 40 + (sum_by (λ stmt. stmt_weight (alone_in c.args.lean) (stmt_view stmt)) c.in-For.first
    + (perhaps_weight (alone_in c.args.lean) (perhaps_view c.in-For.x)
    + (perhaps_weight (alone_in c.args.lean) (perhaps_view c.in-For.step)
    + stmt_weight (alone_in c.args.lean) (stmt_view c.in-For.s.value)))) =
    rw c.in-For.is (for_weight c.args.lean c.in-For.first c.in-For.x c.in-For.step c.in-For.s) in
    grind (arith, common_steps)

pub stmt_weight-returns-in-Switch : goal.stmt_weight-returns-in-Switch
stmt_weight-returns-in-Switch t c =
    let e : stmt_weight (alone_in c.args.lean) (stmt_view c.args.stmt.now)
    ≡ 40 + (expr_weight (alone_in c.args.lean) (expr_view c.in-Switch.x)
    + (sum_by (λ case. ranges_weight case.ranges
    + stmt_weight (alone_in c.args.lean) (stmt_view case.stmt)) c.in-Switch.cases
    + else_weight (alone_in c.args.lean) (else_view c.in-Switch.other))) =
    rw c.in-Switch.is (switch_weight c.args.lean c.in-Switch.x c.in-Switch.cases c.in-Switch.other)
    in
    grind (arith, common_steps)
