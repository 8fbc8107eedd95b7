use Rattle.std.proofs.Common.{rules, arith}
use Rattle.std.proofs.lemmas.Grind.{common_steps}
use Rattle.pawn_tree.specs.declared.expression.Expr as held
use Rattle.pawn_tree.proofs.HeightLaws.{call_height, chain_height}
use Rattle.pawn_tree.proofs.expression_height.+height.Goals as goal

pub expr_height-links_height-requires : goal.expr_height-links_height-requires
expr_height-links_height-requires t c =
    let e = chain_height c.in-Chain.field-0 c.in-Chain.x c.in-Chain.links
    c.args.x.now c.in-Chain.is in
    (search (rules, held.the_lemmas), omega (arith, e, c.requires))

pub expr_height-overflow_add-result-in-Chain : goal.expr_height-overflow_add-result-in-Chain
expr_height-overflow_add-result-in-Chain t c =
    let e = chain_height c.in-Chain.field-0 c.in-Chain.x c.in-Chain.links
    c.args.x.now c.in-Chain.is in
    grind (arith, common_steps)

pub expr_height-returns-in-Chain : goal.expr_height-returns-in-Chain
expr_height-returns-in-Chain t c =
    let e = chain_height c.in-Chain.field-0 c.in-Chain.x c.in-Chain.links
    c.args.x.now c.in-Chain.is in
    grind (arith, common_steps)

pub expr_height-args_height-requires : goal.expr_height-args_height-requires
expr_height-args_height-requires t c =
    let e = call_height c.in-Call.field-0 c.in-Call.field-1 c.in-Call.args c.in-Call.field-3
    c.args.x.now c.in-Call.is in
    (search (rules, held.the_lemmas), omega (arith, e, c.requires))

pub expr_height-overflow_add-result-in-Call : goal.expr_height-overflow_add-result-in-Call
expr_height-overflow_add-result-in-Call t c =
    let e = call_height c.in-Call.field-0 c.in-Call.field-1 c.in-Call.args c.in-Call.field-3
    c.args.x.now c.in-Call.is in
    grind (arith, common_steps)

pub expr_height-returns-in-Call : goal.expr_height-returns-in-Call
expr_height-returns-in-Call t c =
    let e = call_height c.in-Call.field-0 c.in-Call.field-1 c.in-Call.args c.in-Call.field-3
    c.args.x.now c.in-Call.is in
    grind (arith, common_steps)
