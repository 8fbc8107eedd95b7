use Rattle.std.proofs.Common.{◌≡◌, ◌+◌, map, max, arith}
use Rattle.std.specs.List.{sum_by}
use Rattle.std.proofs.lemmas.Grind.{common_steps}
use Rattle.pawn_meaning.specs.Need.{greatest, locals, made_by, else_locals}
use Rattle.pawn_meaning.specs.View.{slot_view, stmt_view, else_view}
use Rattle.pawn_meaning.proofs.NeedLaws.{block_locals, for_locals, switch_locals}
use Rattle.pawn_meaning.proofs.locals.+locals.Goals as goal

pub locals-returns-in-Block : goal.locals-returns-in-Block
locals-returns-in-Block t c =
    let e : locals (map slot_view c.args.slots.now) (stmt_view c.args.stmt.now)
    ≡ sum_by (λ stmt. made_by (map slot_view c.args.slots.now) (stmt_view stmt)) c.in-Block.stmts
    + greatest (map (λ stmt. locals (map slot_view c.args.slots.now) (stmt_view stmt))
    c.in-Block.stmts) =
    rw c.in-Block.is (block_locals (map slot_view c.args.slots.now) c.in-Block.stmts) in
    grind (arith, common_steps)

pub locals-returns-in-For : goal.locals-returns-in-For
locals-returns-in-For t c =
    let e : locals (map slot_view c.args.slots.now) (stmt_view c.args.stmt.now)
    ≡ sum_by (λ stmt. made_by (map slot_view c.args.slots.now) (stmt_view stmt)) c.in-For.first
    + max (greatest (map (λ stmt. locals (map slot_view c.args.slots.now) (stmt_view stmt))
    c.in-For.first)) (locals (map slot_view c.args.slots.now) (stmt_view c.in-For.s.value)) =
    rw c.in-For.is (for_locals (map slot_view c.args.slots.now) c.in-For.first c.in-For.field-1
    c.in-For.field-2 c.in-For.s) in
    grind (arith, common_steps)

pub locals-returns-in-Switch : goal.locals-returns-in-Switch
locals-returns-in-Switch t c =
    let e : locals (map slot_view c.args.slots.now) (stmt_view c.args.stmt.now)
    ≡ max (greatest (map (λ case. locals (map slot_view c.args.slots.now) (stmt_view case.stmt))
    c.in-Switch.cases)) (else_locals (map slot_view c.args.slots.now)
    (else_view c.in-Switch.other)) =
    rw c.in-Switch.is (switch_locals (map slot_view c.args.slots.now) c.in-Switch.field-0
    c.in-Switch.cases c.in-Switch.other) in
    grind (arith, common_steps)
