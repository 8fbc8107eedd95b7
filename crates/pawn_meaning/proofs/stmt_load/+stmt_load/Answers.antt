use Rattle.std.proofs.Common.{◌≡◌, map, max, arith}
use Rattle.std.proofs.lemmas.Grind.{common_steps}
use Rattle.pawn_meaning.specs.Need.{greatest, load, perhaps_load, stmt_load, else_load}
use Rattle.pawn_meaning.specs.View.{expr_view, perhaps_view, stmt_view, else_view}
use Rattle.pawn_meaning.proofs.NeedLaws.{block_load, for_load, switch_load}
use Rattle.pawn_meaning.proofs.stmt_load.+stmt_load.Goals as goal

pub stmt_load-returns-in-Block : goal.stmt_load-returns-in-Block
stmt_load-returns-in-Block t c =
    let e : stmt_load (stmt_view c.args.stmt.now)
    ≡ greatest (map (λ stmt. stmt_load (stmt_view stmt)) c.in-Block.stmts) =
    rw c.in-Block.is (block_load c.in-Block.stmts) in
    grind (arith, common_steps)

pub stmt_load-returns-in-For : goal.stmt_load-returns-in-For
stmt_load-returns-in-For t c =
    let e : stmt_load (stmt_view c.args.stmt.now)
    ≡ max (greatest (map (λ stmt. stmt_load (stmt_view stmt)) c.in-For.first))
    (max (perhaps_load (perhaps_view c.in-For.x))
    (max (perhaps_load (perhaps_view c.in-For.step))
    (stmt_load (stmt_view c.in-For.s.value)))) =
    rw c.in-For.is (for_load c.in-For.first c.in-For.x c.in-For.step c.in-For.s) in
    grind (arith, common_steps)

pub stmt_load-returns-in-Switch : goal.stmt_load-returns-in-Switch
stmt_load-returns-in-Switch t c =
    let e : stmt_load (stmt_view c.args.stmt.now)
    ≡ max (load (expr_view c.in-Switch.x))
    (max (greatest (map (λ case. stmt_load (stmt_view case.stmt)) c.in-Switch.cases))
    (else_load (else_view c.in-Switch.other))) =
    rw c.in-Switch.is (switch_load c.in-Switch.x c.in-Switch.cases c.in-Switch.other) in
    grind (arith, common_steps)
