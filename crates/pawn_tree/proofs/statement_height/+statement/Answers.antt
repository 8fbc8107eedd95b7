use Rattle.std.proofs.Common.{rules, arith}
use Rattle.std.proofs.lemmas.Grind.{common_steps}
use Rattle.pawn_tree.specs.declared.statement.Stmt as held
use Rattle.pawn_tree.proofs.HeightLaws.{block_height, if_height, switch_height}
use Rattle.pawn_tree.proofs.statement_height.+statement.Goals as goal

pub stmt_height-stmts_height-requires : goal.stmt_height-stmts_height-requires
stmt_height-stmts_height-requires t c =
    let e = block_height c.in-Block.field-0 c.in-Block.list c.args.x.now c.in-Block.is in
    (search (rules, held.the_lemmas), omega (arith, e, c.requires))

pub stmt_height-overflow_add-result : goal.stmt_height-overflow_add-result
stmt_height-overflow_add-result t c =
    let e = block_height c.in-Block.field-0 c.in-Block.list c.args.x.now c.in-Block.is in
    grind (arith, common_steps)

pub stmt_height-returns-in-Block : goal.stmt_height-returns-in-Block
stmt_height-returns-in-Block t c =
    let e = block_height c.in-Block.field-0 c.in-Block.list c.args.x.now c.in-Block.is in
    grind (arith, common_steps)

pub stmt_height-other_height-requires : goal.stmt_height-other_height-requires
stmt_height-other_height-requires t c =
    let e = if_height c.in-If.field-0 c.in-If.x c.in-If.s c.in-If.other c.args.x.now c.in-If.is in
    (search (rules, held.the_lemmas), omega (arith, e, c.requires))

pub stmt_height-overflow_add-result-in-If : goal.stmt_height-overflow_add-result-in-If
stmt_height-overflow_add-result-in-If t c =
    let e = if_height c.in-If.field-0 c.in-If.x c.in-If.s c.in-If.other c.args.x.now c.in-If.is in
    grind (arith, common_steps)

pub stmt_height-returns-in-If : goal.stmt_height-returns-in-If
stmt_height-returns-in-If t c =
    let e = if_height c.in-If.field-0 c.in-If.x c.in-If.s c.in-If.other c.args.x.now c.in-If.is in
    grind (arith, common_steps)

pub stmt_height-cases_height-requires : goal.stmt_height-cases_height-requires
stmt_height-cases_height-requires t c =
    let e = switch_height c.in-Switch.field-0 c.in-Switch.x c.in-Switch.cases c.in-Switch.other
    c.args.x.now c.in-Switch.is in
    (search (rules, held.the_lemmas), omega (arith, e, c.requires))

pub stmt_height-other_height-requires-in-Switch : goal.stmt_height-other_height-requires-in-Switch
stmt_height-other_height-requires-in-Switch t c =
    let e = switch_height c.in-Switch.field-0 c.in-Switch.x c.in-Switch.cases c.in-Switch.other
    c.args.x.now c.in-Switch.is in
    (search (rules, held.the_lemmas), omega (arith, e, c.requires))

pub stmt_height-overflow_add-result-in-Switch : goal.stmt_height-overflow_add-result-in-Switch
stmt_height-overflow_add-result-in-Switch t c =
    let e = switch_height c.in-Switch.field-0 c.in-Switch.x c.in-Switch.cases c.in-Switch.other
    c.args.x.now c.in-Switch.is in
    grind (arith, common_steps)

pub stmt_height-returns-in-Switch : goal.stmt_height-returns-in-Switch
stmt_height-returns-in-Switch t c =
    let e = switch_height c.in-Switch.field-0 c.in-Switch.x c.in-Switch.cases c.in-Switch.other
    c.args.x.now c.in-Switch.is in
    grind (arith, common_steps)
