use Rattle.tree_rules.specs.Brackets.{IsTooDeep}
use Rattle.pawn_front.proofs.CheckLaws.{NoTreeFrom, grows_too_deep, grows_no_tree}
use Rattle.pawn_front.proofs.checking.tree_of.Goals as goal

pub returns-in-Err-TooDeep : goal.returns-in-Err-TooDeep
returns-in-Err-TooDeep c =
    let deep : IsTooDeep c.args.tokens.now.list c.in-Err-TooDeep.at =
    rw c.in-Err-TooDeep.field-0-is at c.in-Err-TooDeep.ensures.answer in
    grows_too_deep c.args.tokens.now.list c.as_slice.result.now c.in-Err-TooDeep.at
    c.fault_at.result c.as_slice.ensures deep c.fault_at.ensures

pub returns-in-Err-Syntax : goal.returns-in-Err-Syntax
returns-in-Err-Syntax c =
    let none : NoTreeFrom c.args.tokens.now.list c.in-Err-Syntax.at =
    rw c.in-Err-Syntax.field-0-is at c.in-Err-Syntax.ensures.answer in
    grows_no_tree c.args.tokens.now.list c.as_slice-in-Err-Syntax.result.now c.in-Err-Syntax.at
    c.fault_at-in-Err-Syntax.result
    c.as_slice-in-Err-Syntax.ensures none c.fault_at-in-Err-Syntax.ensures
