use Rattle.std.proofs.Common.{rules, arith, refl, sym, ap, ◌∙◌, subst}
use Rattle.std.specs.Prelude.{option_map, map}
use Rattle.pawn_tree.specs.Statements as tree
use Rattle.pawn_tree.specs.View.{expr_view, stmt_view, case_view, first_view}
use Rattle.std.proofs.lemmas.Result.{err_from_is_err_and}
use Rattle.pawn_tree.proofs.ViewLaws.{block_view, if_view, switch_view}
use Rattle.types_rules.specs.Counts.{objects_in_all, slots_in_all}
use Rattle.check_nodes.specs.Scopes.{without}
use Rattle.check_locals.specs.PointView.{point_view}
use Rattle.check_nodes.specs.ContextView.{around_view}
use Rattle.check_statements.proofs.PointLaws.{beyond_none}
use Rattle.check_statements.specs.BodyJudging.{block_in}
use Rattle.check_statements.proofs.QuietLaws.{tells_by, whatever}
use Rattle.check_statements.proofs.StmtLaws.{for_so, if_told_is, if_fails_first, if_fails_body}
use Rattle.check_statements.proofs.StmtLaws.{if_fails_other, while_told_is, while_fails_first}
use Rattle.check_statements.proofs.StmtLaws.{while_fails_body, do_told_is, do_fails_first}
use Rattle.check_statements.proofs.StmtLaws.{do_fails_part, switch_told_is, switch_fails_first}
use Rattle.check_statements.proofs.StmtLaws.{switch_fails_cases, switch_fails_other, for_told_is}
use Rattle.check_statements.proofs.StmtLaws.{for_fails_first, for_fails_c, for_fails_step}
use Rattle.check_statements.proofs.StmtLaws.{for_fails_body, for_fails_done, other_fails}
use Rattle.check_statements.proofs.StmtLaws.{block_judged_fails}
use Rattle.check_statements.proofs.PlaceLaws.{Placed, declares_all, three_places, value_first}
use Rattle.check_statements.proofs.PlaceLaws.{value_last, back_is, closed_is, stmt_placed}
use Rattle.check_statements.proofs.PlaceLaws.{all_placed, placed_back, placed_out}
use Rattle.check_statements.proofs.BlockLaws.{block_begins, block_more, block_fails, block_all}
use Rattle.check_statements.proofs.BlockLaws.{cases_begin, cases_more, cases_fail, cases_all}
use Rattle.check_statements.proofs.bodies.+statements.Goals as goal

-- ---- a block

pub block-loop-i-init : goal.block-loop-i-init
block-loop-i-init t c = rw c.in_ok-none.ensures (block_begins _ _ _ _)

pub block-loop-i-preserved : goal.block-loop-i-preserved
block-loop-i-preserved t c =
    block_more _ _ _ _ _ _ _ c.index-items-i.result _ _ _ c.loop-i.invariant
    (omega arith) c.index-items-i.is
    c.in_ok-it.ensures.tells c.in_ok-it.ensures.behind c.in_ok-done.ensures

pub cases-loop-i-init : goal.cases-loop-i-init
cases-loop-i-init t c = rw c.no_case.ensures (cases_begin _ _ _ _)

pub cases-loop-i-preserved : goal.cases-loop-i-preserved
cases-loop-i-preserved t c =
    cases_more _ _ _ _ _ _ _ c.index-items-i.result _ _ _ c.loop-i.invariant
    (omega arith) c.index-items-i.is
    c.in_ok-it.ensures.tells c.in_ok-it.ensures.behind c.in_ok-done.ensures

pub block-returns-in_err-it-clause-tells : goal.block-returns-in_err-it-clause-tells
block-returns-in_err-it-clause-tells t c =
    let p =
    err_from_is_err_and c.from_residual-in_err-it.result c.from_residual-in_err-it.ensures.1 in
    rw (p.1, p.2, sym c.as_slice-items.ensures)
    (block_fails _ _ _ _ _ _ c.index-items-i.result _ _ c.loop-i.invariant
    (omega arith) c.index-items-i.is c.in_err-it.ensures.tells)

pub block-returns-clause-tells : goal.block-returns-clause-tells
block-returns-clause-tells t c =
    rw (sym c.as_slice-items.ensures) (block_all _ _ _ _ _ _ _ c.loop-i.invariant (omega arith)).0

pub block-returns-clause-behind : goal.block-returns-clause-behind
block-returns-clause-behind t c =
    rw (sym c.as_slice-items.ensures) (block_all _ _ _ _ _ _ _ c.loop-i.invariant (omega arith)).1

pub cases-returns-in_err-it-clause-tells : goal.cases-returns-in_err-it-clause-tells
cases-returns-in_err-it-clause-tells t c =
    let p = err_from_is_err_and c.from_residual.result c.from_residual.ensures.1 in
    rw (p.1, p.2, sym c.as_slice-items.ensures)
    (cases_fail _ _ _ _ _ _ c.index-items-i.result _ _ c.loop-i.invariant
    (omega arith) c.index-items-i.is c.in_err-it.ensures.tells)

pub cases-returns-clause-tells : goal.cases-returns-clause-tells
cases-returns-clause-tells t c =
    rw (sym c.as_slice-items.ensures) (cases_all _ _ _ _ _ _ _ c.loop-i.invariant (omega arith)).0

pub cases-returns-clause-behind : goal.cases-returns-clause-behind
cases-returns-clause-behind t c =
    rw (sym c.as_slice-items.ensures) (cases_all _ _ _ _ _ _ _ c.loop-i.invariant (omega arith)).1

-- ---- a statement whose declarations end with it

pub body-returns-clause-behind : goal.body-returns-clause-behind
body-returns-clause-behind t c =
    placed_back _ _ _ c.args.point.now c.stmt.new.point c.forget.new.self
    (rw c.in_ok-it.ensures.behind (stmt_placed (around_view c.args.setting.now.cx.now) _ _))
    (c.forget.ensures.scopes ∙ ap (λ n. without n c.stmt.new.point.scopes) c.declared_in.ensures)
    c.forget.ensures.objects c.forget.ensures.slots

pub block_stmt-returns-clause-tells : goal.block_stmt-returns-clause-tells
block_stmt-returns-clause-tells t c =
    tells_by _ _ _ _ (rw (sym c.in_ok-enter.ensures, c.in_ok-it.ensures.tells) refl)
    c.block_told.ensures

pub block_stmt-returns-clause-behind : goal.block_stmt-returns-clause-behind
block_stmt-returns-clause-behind t c =
    whatever c.block_told.result _
    (placed_out _ _ _ c.args.point.now c.enter.new.self c.block.new.point c.leave.new.self
    c.in_ok-enter.ensures
    (subst (λ q. Placed (declares_all (around_view c.args.setting.now.cx.now)
    (tree.stmts (map stmt_view c.args.list.now)))
    (objects_in_all (tree.stmts (map stmt_view c.args.list.now)))
    (slots_in_all (tree.stmts (map stmt_view c.args.list.now)))
    (point_view c.enter.new.self) q) (sym c.in_ok-it.ensures.behind)
    (all_placed (around_view c.args.setting.now.cx.now) _ _))
    c.leave.ensures.scopes c.leave.ensures.objects c.leave.ensures.slots)

-- ---- loops

pub while_stmt-returns-clause-tells : goal.while_stmt-returns-clause-tells
while_stmt-returns-clause-tells t c = λ in_loop.
    tells_by _ _ _ _ (while_told_is c.args.setting.now in_loop
    (point_view c.args.point.now) c.args.test.at (expr_view c.args.test.c.now)
    (stmt_view c.args.s.now) _ _ _ c.in_ok-c.ensures.tells c.in_ok-c.ensures.behind
    c.in_ok-s.ensures.tells) c.while_told.ensures

pub while_stmt-returns-clause-behind : goal.while_stmt-returns-clause-behind
while_stmt-returns-clause-behind t c =
    whatever _ _ (value_first _ _ _ _ _ _ c.in_ok-c.ensures.behind c.in_ok-s.ensures.behind)

pub do_while_stmt-returns-clause-tells : goal.do_while_stmt-returns-clause-tells
do_while_stmt-returns-clause-tells t c = λ in_loop.
    tells_by _ _ _ _ (do_told_is c.args.setting.now in_loop (point_view c.args.point.now)
    c.args.test.at (expr_view c.args.test.c.now) (stmt_view c.args.s.now) _ _ _
    c.in_ok-s.ensures.tells c.in_ok-s.ensures.behind c.in_ok-c.ensures.tells)
    c.do_while_told.ensures

pub do_while_stmt-returns-clause-behind : goal.do_while_stmt-returns-clause-behind
do_while_stmt-returns-clause-behind t c =
    whatever _ _ (value_last _ _ _ _ _ _ c.in_ok-s.ensures.behind c.in_ok-c.ensures.behind)

pub for_stmt-returns-clause-tells : goal.for_stmt-returns-clause-tells
for_stmt-returns-clause-tells t c = λ in_loop.
    let begun = back_is (around_view c.args.setting.now.cx.now) c.args.at _ c.args.point.now
    c.enter.new.self c.body.new.point _ _ _ _ c.in_ok-enter.ensures
    c.in_ok-judge_first.ensures.behind c.in_ok-c.ensures.behind c.in_ok-step.ensures.behind
    c.in_ok-s.ensures.behind c.go_back.new.point c.go_back.ensures.scopes
    c.go_back.ensures.objects c.go_back.ensures.slots in
    tells_by _ _ _ _ (for_told_is c.args.setting.now in_loop (point_view c.args.point.now) c.args.at
    (first_view c.args.first.now) (option_map expr_view c.args.c.now)
    (option_map expr_view c.args.step.now) (stmt_view c.args.s.now) _ _ _ _ _ _ _ _ _ _ _
    (for_so _ _ _ _ _ _ _ _ c.in_ok-enter.ensures c.in_ok-judge_first.ensures.tells
    c.in_ok-judge_first.ensures.behind c.in_ok-c.ensures.tells c.in_ok-c.ensures.behind
    c.in_ok-step.ensures.tells c.in_ok-step.ensures.behind c.in_ok-s.ensures.tells) _ _ begun
    c.in_ok-done.ensures.tells) c.for_told.ensures

pub for_stmt-returns-clause-behind : goal.for_stmt-returns-clause-behind
for_stmt-returns-clause-behind t c =
    let begun = back_is (around_view c.args.setting.now.cx.now) c.args.at _ c.args.point.now
    c.enter.new.self c.body.new.point _ _ _ _ c.in_ok-enter.ensures
    c.in_ok-judge_first.ensures.behind c.in_ok-c.ensures.behind c.in_ok-step.ensures.behind
    c.in_ok-s.ensures.behind c.go_back.new.point c.go_back.ensures.scopes
    c.go_back.ensures.objects c.go_back.ensures.slots in
    whatever _ _ (closed_is (around_view c.args.setting.now.cx.now) c.args.at _
    c.args.point.now c.enter.new.self c.body.new.point _ _ _ _
    c.in_ok-enter.ensures c.in_ok-judge_first.ensures.behind c.in_ok-c.ensures.behind
    c.in_ok-step.ensures.behind c.in_ok-s.ensures.behind
    c.go_back.new.point c.first_done.new.point c.close.new.point begun c.in_ok-done.ensures.behind
    c.close.ensures.scopes c.close.ensures.objects c.close.ensures.slots)

-- ---- statements

pub stmt-returns-in-Block-clause-tells : goal.stmt-returns-in-Block-clause-tells
stmt-returns-in-Block-clause-tells t c =
    let is = ap stmt_view c.in-Block.is ∙ block_view c.in-Block.field-0 c.in-Block.list in
    rw is c.block_stmt.ensures.tells

pub stmt-returns-in-Block-clause-behind : goal.stmt-returns-in-Block-clause-behind
stmt-returns-in-Block-clause-behind t c =
    let is = ap stmt_view c.in-Block.is ∙ block_view c.in-Block.field-0 c.in-Block.list in
    rw is c.block_stmt.ensures.behind

pub stmt-returns-in_ok-other-in-If-clause-tells : goal.stmt-returns-in_ok-other-in-If-clause-tells
stmt-returns-in_ok-other-in-If-clause-tells t c =
    let is = ap stmt_view c.in-If.is ∙ if_view c.in-If.at c.in-If.c c.in-If.s c.in-If.other in
    rw is (tells_by _ _ _ _ (if_told_is c.args.setting.now c.args.in_loop
    (point_view c.args.point.now) c.in-If.at (expr_view c.in-If.c) (stmt_view c.in-If.s.value)
    (tree.maybe_stmt (option_map (λ b. stmt_view b.value) c.in-If.other)) _ _ _ _ _
    c.in_ok-c-in-If.ensures.tells c.in_ok-c-in-If.ensures.behind
    (rw c.deref.ensures at c.in_ok-s-in-If.ensures.tells)
    (rw c.deref.ensures at c.in_ok-s-in-If.ensures.behind) c.in_ok-other-in-If.ensures.tells)
    c.if_told.ensures)

pub stmt-returns-in_ok-other-in-If-clause-behind : goal.stmt-returns-in_ok-other-in-If-clause-behind
stmt-returns-in_ok-other-in-If-clause-behind t c =
    let is = ap stmt_view c.in-If.is ∙ if_view c.in-If.at c.in-If.c c.in-If.s c.in-If.other in
    rw is (whatever _ _ (three_places _ _ _ _ _ _ _ _ _ c.in_ok-c-in-If.ensures.behind
    (rw c.deref.ensures at c.in_ok-s-in-If.ensures.behind) c.in_ok-other-in-If.ensures.behind))

pub stmt-returns-in_ok-other-in-Switch-clause-tells
    : goal.stmt-returns-in_ok-other-in-Switch-clause-tells
stmt-returns-in_ok-other-in-Switch-clause-tells t c =
    let is = ap stmt_view c.in-Switch.is ∙ switch_view _ _ _ _ in
    rw is (tells_by _ _ _ _ (switch_told_is c.args.setting.now c.args.in_loop
    (point_view c.args.point.now) c.in-Switch.at (expr_view c.in-Switch.e)
    (tree.cases (map case_view c.in-Switch.list))
    (tree.maybe_stmt (option_map (λ b. stmt_view b.value) c.in-Switch.other)) _ _ _ _ _
    c.in_ok-x-in-Switch.ensures.tells c.in_ok-x-in-Switch.ensures.behind
    c.in_ok-parts-in-Switch.ensures.tells c.in_ok-parts-in-Switch.ensures.behind
    c.in_ok-other-in-Switch.ensures.tells) c.switch_told.ensures)

pub stmt-returns-in_ok-other-in-Switch-clause-behind
    : goal.stmt-returns-in_ok-other-in-Switch-clause-behind
stmt-returns-in_ok-other-in-Switch-clause-behind t c =
    let is = ap stmt_view c.in-Switch.is ∙ switch_view _ _ _ _ in
    rw is (whatever _ _ (three_places _ _ _ _ _ _ _ _ _ c.in_ok-x-in-Switch.ensures.behind
    c.in_ok-parts-in-Switch.ensures.behind c.in_ok-other-in-Switch.ensures.behind))

pub stmt-returns-in_err-c-in-If-clause-tells : goal.stmt-returns-in_err-c-in-If-clause-tells
stmt-returns-in_err-c-in-If-clause-tells t c =
    let p = err_from_is_err_and c.from_residual.result c.from_residual.ensures.1 in
    rw (p.1, p.2) (rw (ap stmt_view c.in-If.is
    ∙ if_view c.in-If.at c.in-If.c c.in-If.s c.in-If.other)
    (if_fails_first c.args.setting.now c.args.in_loop
    (point_view c.args.point.now) c.in-If.at (expr_view c.in-If.c)
    (stmt_view c.in-If.s.value) (tree.maybe_stmt
    (option_map (λ b. stmt_view b.value) c.in-If.other)) _
    c.in_err-c-in-If.ensures.tells))

pub stmt-returns-in_err-s-in-If-clause-tells : goal.stmt-returns-in_err-s-in-If-clause-tells
stmt-returns-in_err-s-in-If-clause-tells t c =
    let p = err_from_is_err_and c.from_residual-in_err-s-in-If.result
    c.from_residual-in_err-s-in-If.ensures.1 in
    rw (p.1, p.2) (rw (ap stmt_view c.in-If.is
    ∙ if_view c.in-If.at c.in-If.c c.in-If.s c.in-If.other)
    (if_fails_body c.args.setting.now c.args.in_loop
    (point_view c.args.point.now) c.in-If.at (expr_view c.in-If.c)
    (stmt_view c.in-If.s.value) (tree.maybe_stmt
    (option_map (λ b. stmt_view b.value) c.in-If.other)) _ _
    c.in_ok-c-in-If.ensures.behind
    (rw c.deref.ensures at c.in_err-s-in-If.ensures.tells)))

pub stmt-returns-in_err-other-in-If-clause-tells : goal.stmt-returns-in_err-other-in-If-clause-tells
stmt-returns-in_err-other-in-If-clause-tells t c =
    let p = err_from_is_err_and c.from_residual-in_err-other-in-If.result
    c.from_residual-in_err-other-in-If.ensures.1 in
    rw (p.1, p.2) (rw (ap stmt_view c.in-If.is
    ∙ if_view c.in-If.at c.in-If.c c.in-If.s c.in-If.other)
    (if_fails_other c.args.setting.now c.args.in_loop
    (point_view c.args.point.now) c.in-If.at (expr_view c.in-If.c)
    (stmt_view c.in-If.s.value) (tree.maybe_stmt
    (option_map (λ b. stmt_view b.value) c.in-If.other)) _ _ _
    c.in_ok-c-in-If.ensures.behind
    (rw c.deref.ensures at c.in_ok-s-in-If.ensures.behind)
    c.in_err-other-in-If.ensures.tells))

pub stmt-returns-in_err-x-in-Switch-clause-tells : goal.stmt-returns-in_err-x-in-Switch-clause-tells
stmt-returns-in_err-x-in-Switch-clause-tells t c =
    let p = err_from_is_err_and c.from_residual-in_err-x-in-Switch.result
    c.from_residual-in_err-x-in-Switch.ensures.1 in
    rw (p.1, p.2) (rw (ap stmt_view c.in-Switch.is
    ∙ switch_view c.in-Switch.at c.in-Switch.e c.in-Switch.list c.in-Switch.other)
    (switch_fails_first c.args.setting.now c.args.in_loop
    (point_view c.args.point.now) c.in-Switch.at (expr_view c.in-Switch.e)
    (tree.cases (map case_view c.in-Switch.list))
    (tree.maybe_stmt (option_map (λ b. stmt_view b.value) c.in-Switch.other)) _
    c.in_err-x-in-Switch.ensures.tells))

pub stmt-returns-in_err-parts-in-Switch-clause-tells
    : goal.stmt-returns-in_err-parts-in-Switch-clause-tells
stmt-returns-in_err-parts-in-Switch-clause-tells t c =
    let p = err_from_is_err_and c.from_residual-in_err-parts-in-Switch.result
    c.from_residual-in_err-parts-in-Switch.ensures.1 in
    rw (p.1, p.2) (rw (ap stmt_view c.in-Switch.is
    ∙ switch_view c.in-Switch.at c.in-Switch.e c.in-Switch.list c.in-Switch.other)
    (switch_fails_cases c.args.setting.now c.args.in_loop
    (point_view c.args.point.now) c.in-Switch.at (expr_view c.in-Switch.e)
    (tree.cases (map case_view c.in-Switch.list))
    (tree.maybe_stmt (option_map (λ b. stmt_view b.value) c.in-Switch.other)) _
    _ c.in_ok-x-in-Switch.ensures.behind
    c.in_err-parts-in-Switch.ensures.tells))

pub stmt-returns-in_err-other-in-Switch-clause-tells
    : goal.stmt-returns-in_err-other-in-Switch-clause-tells
stmt-returns-in_err-other-in-Switch-clause-tells t c =
    let p = err_from_is_err_and c.from_residual-in_err-other-in-Switch.result
    c.from_residual-in_err-other-in-Switch.ensures.1 in
    rw (p.1, p.2) (rw (ap stmt_view c.in-Switch.is
    ∙ switch_view c.in-Switch.at c.in-Switch.e c.in-Switch.list c.in-Switch.other)
    (switch_fails_other c.args.setting.now c.args.in_loop
    (point_view c.args.point.now) c.in-Switch.at (expr_view c.in-Switch.e)
    (tree.cases (map case_view c.in-Switch.list))
    (tree.maybe_stmt (option_map (λ b. stmt_view b.value) c.in-Switch.other)) _
    _ _ c.in_ok-x-in-Switch.ensures.behind
    c.in_ok-parts-in-Switch.ensures.behind
    c.in_err-other-in-Switch.ensures.tells))

pub stmt-returns-in-Empty-clause-behind : goal.stmt-returns-in-Empty-clause-behind
stmt-returns-in-Empty-clause-behind t c = rw c.in-Empty.is (whatever _ _ (beyond_none _))

pub stmt-returns-in-Break-clause-behind : goal.stmt-returns-in-Break-clause-behind
stmt-returns-in-Break-clause-behind t c = rw c.in-Break.is (whatever _ _ (beyond_none _))

pub stmt-returns-in-Continue-clause-behind : goal.stmt-returns-in-Continue-clause-behind
stmt-returns-in-Continue-clause-behind t c = rw c.in-Continue.is (whatever _ _ (beyond_none _))

pub stmt-returns-in-While-clause-tells : goal.stmt-returns-in-While-clause-tells
stmt-returns-in-While-clause-tells t c =
    rw c.in-While.is (rw c.deref-in-While.ensures at (c.while_stmt.ensures.tells c.args.in_loop))

pub stmt-returns-in-While-clause-behind : goal.stmt-returns-in-While-clause-behind
stmt-returns-in-While-clause-behind t c =
    rw c.in-While.is (rw c.deref-in-While.ensures at c.while_stmt.ensures.behind)

pub stmt-returns-in-DoWhile-clause-tells : goal.stmt-returns-in-DoWhile-clause-tells
stmt-returns-in-DoWhile-clause-tells t c =
    rw c.in-DoWhile.is (rw c.deref-in-DoWhile.ensures at
    (c.do_while_stmt.ensures.tells c.args.in_loop))

pub stmt-returns-in-DoWhile-clause-behind : goal.stmt-returns-in-DoWhile-clause-behind
stmt-returns-in-DoWhile-clause-behind t c =
    rw c.in-DoWhile.is (rw c.deref-in-DoWhile.ensures at c.do_while_stmt.ensures.behind)

pub stmt-returns-in-For-clause-tells : goal.stmt-returns-in-For-clause-tells
stmt-returns-in-For-clause-tells t c =
    rw c.in-For.is (rw c.deref-in-For.ensures at (c.for_stmt.ensures.tells c.args.in_loop))

pub stmt-returns-in-For-clause-behind : goal.stmt-returns-in-For-clause-behind
stmt-returns-in-For-clause-behind t c =
    rw c.in-For.is (rw c.deref-in-For.ensures at c.for_stmt.ensures.behind)

pub otherwise-returns-in-None-clause-behind : goal.otherwise-returns-in-None-clause-behind
otherwise-returns-in-None-clause-behind t c = rw c.in-None.is (beyond_none _)

pub otherwise-returns-in_err-it-in-Some-clause-tells
    : goal.otherwise-returns-in_err-it-in-Some-clause-tells
otherwise-returns-in_err-it-in-Some-clause-tells t c =
    let p = err_from_is_err_and c.from_residual.result c.from_residual.ensures.1 in
    rw (p.1, p.2) (rw c.in-Some.is
    (other_fails c.args.setting.now c.args.in_loop (point_view c.args.point.now)
    (stmt_view c.in-Some.s.value) _
    (rw c.deref.ensures at c.in_err-it-in-Some.ensures.tells)))

pub otherwise-returns-in_ok-it-in-Some-clause-tells
    : goal.otherwise-returns-in_ok-it-in-Some-clause-tells
otherwise-returns-in_ok-it-in-Some-clause-tells t c =
    rw (c.in-Some.is, (rw c.deref.ensures at c.in_ok-it-in-Some.ensures.tells))
    (sym c.other_of.ensures)

pub otherwise-returns-in_ok-it-in-Some-clause-behind
    : goal.otherwise-returns-in_ok-it-in-Some-clause-behind
otherwise-returns-in_ok-it-in-Some-clause-behind t c =
    rw c.in-Some.is (rw c.deref.ensures at c.in_ok-it-in-Some.ensures.behind)

pub block_stmt-returns-in_err-it-clause-tells : goal.block_stmt-returns-in_err-it-clause-tells
block_stmt-returns-in_err-it-clause-tells t c =
    let p =
    err_from_is_err_and c.from_residual-in_err-it.result c.from_residual-in_err-it.ensures.1 in
    rw (p.1, p.2) (rw (sym c.in_ok-enter.ensures)
    (block_judged_fails (block_in c.args.setting.now
    (point_view c.enter.new.self) c.args.in_loop
    (tree.stmts (map stmt_view c.args.list.now))) _ c.in_err-it.ensures.tells))

pub while_stmt-returns-in_err-c-clause-tells : goal.while_stmt-returns-in_err-c-clause-tells
while_stmt-returns-in_err-c-clause-tells t c =
    let p = err_from_is_err_and c.from_residual.result c.from_residual.ensures.1 in
    λ in_loop. rw (p.1, p.2) (while_fails_first c.args.setting.now in_loop
    (point_view c.args.point.now) c.args.test.at (expr_view c.args.test.c.now)
    (stmt_view c.args.s.now) _ c.in_err-c.ensures.tells)

pub while_stmt-returns-in_err-s-clause-tells : goal.while_stmt-returns-in_err-s-clause-tells
while_stmt-returns-in_err-s-clause-tells t c =
    let p =
    err_from_is_err_and c.from_residual-in_err-s.result c.from_residual-in_err-s.ensures.1 in
    λ in_loop. rw (p.1, p.2) (while_fails_body c.args.setting.now in_loop
    (point_view c.args.point.now) c.args.test.at (expr_view c.args.test.c.now)
    (stmt_view c.args.s.now) _ _ c.in_ok-c.ensures.behind c.in_err-s.ensures.tells)

pub do_while_stmt-returns-in_err-s-clause-tells : goal.do_while_stmt-returns-in_err-s-clause-tells
do_while_stmt-returns-in_err-s-clause-tells t c =
    let p = err_from_is_err_and c.from_residual.result c.from_residual.ensures.1 in
    λ in_loop. rw (p.1, p.2) (do_fails_first c.args.setting.now in_loop
    (point_view c.args.point.now) c.args.test.at (expr_view c.args.test.c.now)
    (stmt_view c.args.s.now) _ c.in_err-s.ensures.tells)

pub do_while_stmt-returns-in_err-c-clause-tells : goal.do_while_stmt-returns-in_err-c-clause-tells
do_while_stmt-returns-in_err-c-clause-tells t c =
    let p =
    err_from_is_err_and c.from_residual-in_err-c.result c.from_residual-in_err-c.ensures.1 in
    λ in_loop. rw (p.1, p.2) (do_fails_part c.args.setting.now in_loop
    (point_view c.args.point.now) c.args.test.at (expr_view c.args.test.c.now)
    (stmt_view c.args.s.now) _ _ c.in_ok-s.ensures.behind c.in_err-c.ensures.tells)

pub for_stmt-returns-in_err-judge_first-clause-tells
    : goal.for_stmt-returns-in_err-judge_first-clause-tells
for_stmt-returns-in_err-judge_first-clause-tells t c =
    let p = err_from_is_err_and c.from_residual-in_err-judge_first.result
    c.from_residual-in_err-judge_first.ensures.1 in
    λ in_loop. rw (p.1, p.2) (for_fails_first c.args.setting.now in_loop
    (point_view c.args.point.now) c.args.at (first_view c.args.first.now)
    (option_map expr_view c.args.c.now) (option_map expr_view c.args.step.now)
    (stmt_view c.args.s.now) _ _ c.in_ok-enter.ensures
    c.in_err-judge_first.ensures.tells)

pub for_stmt-returns-in_err-c-clause-tells : goal.for_stmt-returns-in_err-c-clause-tells
for_stmt-returns-in_err-c-clause-tells t c =
    let p =
    err_from_is_err_and c.from_residual-in_err-c.result c.from_residual-in_err-c.ensures.1 in
    λ in_loop. rw (p.1, p.2) (for_fails_c c.args.setting.now in_loop
    (point_view c.args.point.now) c.args.at (first_view c.args.first.now)
    (option_map expr_view c.args.c.now) (option_map expr_view c.args.step.now)
    (stmt_view c.args.s.now) _ _ _ c.in_ok-enter.ensures
    c.in_ok-judge_first.ensures.behind c.in_err-c.ensures.tells)

pub for_stmt-returns-in_err-step-clause-tells : goal.for_stmt-returns-in_err-step-clause-tells
for_stmt-returns-in_err-step-clause-tells t c =
    let p =
    err_from_is_err_and c.from_residual-in_err-step.result c.from_residual-in_err-step.ensures.1 in
    λ in_loop. rw (p.1, p.2) (for_fails_step c.args.setting.now in_loop
    (point_view c.args.point.now) c.args.at (first_view c.args.first.now)
    (option_map expr_view c.args.c.now) (option_map expr_view c.args.step.now)
    (stmt_view c.args.s.now) _ _ _ _ c.in_ok-enter.ensures
    c.in_ok-judge_first.ensures.behind c.in_ok-c.ensures.behind
    c.in_err-step.ensures.tells)

pub for_stmt-returns-in_err-s-clause-tells : goal.for_stmt-returns-in_err-s-clause-tells
for_stmt-returns-in_err-s-clause-tells t c =
    let p =
    err_from_is_err_and c.from_residual-in_err-s.result c.from_residual-in_err-s.ensures.1 in
    λ in_loop. rw (p.1, p.2) (for_fails_body c.args.setting.now in_loop
    (point_view c.args.point.now) c.args.at (first_view c.args.first.now)
    (option_map expr_view c.args.c.now) (option_map expr_view c.args.step.now)
    (stmt_view c.args.s.now) _ _ _ _ _ c.in_ok-enter.ensures
    c.in_ok-judge_first.ensures.behind c.in_ok-c.ensures.behind
    c.in_ok-step.ensures.behind c.in_err-s.ensures.tells)

pub for_stmt-returns-in_err-done-clause-tells : goal.for_stmt-returns-in_err-done-clause-tells
for_stmt-returns-in_err-done-clause-tells t c =
    let p =
    err_from_is_err_and c.from_residual-in_err-done.result c.from_residual-in_err-done.ensures.1 in
    let begun = back_is (around_view c.args.setting.now.cx.now) c.args.at _ c.args.point.now
    c.enter.new.self c.body.new.point _ _ _ _ c.in_ok-enter.ensures
    c.in_ok-judge_first.ensures.behind c.in_ok-c.ensures.behind c.in_ok-step.ensures.behind
    c.in_ok-s.ensures.behind c.go_back.new.point c.go_back.ensures.scopes
    c.go_back.ensures.objects c.go_back.ensures.slots in
    λ in_loop. rw (p.1, p.2) (for_fails_done c.args.setting.now in_loop
    (point_view c.args.point.now) c.args.at (first_view c.args.first.now)
    (option_map expr_view c.args.c.now) (option_map expr_view c.args.step.now)
    (stmt_view c.args.s.now) _ _ _ _ _ _ _ _ _ _ _
    (for_so _ _ _ _ _ _ _ _ c.in_ok-enter.ensures c.in_ok-judge_first.ensures.tells
    c.in_ok-judge_first.ensures.behind c.in_ok-c.ensures.tells c.in_ok-c.ensures.behind
    c.in_ok-step.ensures.tells c.in_ok-step.ensures.behind c.in_ok-s.ensures.tells) _ _ begun
    c.in_err-done.ensures.tells)

-- ---- statements that hold no other

pub stmt-returns-in-Do-clause-tells : goal.stmt-returns-in-Do-clause-tells
stmt-returns-in-Do-clause-tells t c = rw c.in-Do.is c.do_stmt.ensures.tells

pub stmt-returns-in-Do-clause-behind : goal.stmt-returns-in-Do-clause-behind
stmt-returns-in-Do-clause-behind t c = rw c.in-Do.is c.do_stmt.ensures.behind

pub stmt-returns-in-Return-clause-tells : goal.stmt-returns-in-Return-clause-tells
stmt-returns-in-Return-clause-tells t c = rw c.in-Return.is c.return_stmt.ensures.tells

pub stmt-returns-in-Return-clause-behind : goal.stmt-returns-in-Return-clause-behind
stmt-returns-in-Return-clause-behind t c = rw c.in-Return.is c.return_stmt.ensures.behind

pub stmt-returns-in-Exit-clause-tells : goal.stmt-returns-in-Exit-clause-tells
stmt-returns-in-Exit-clause-tells t c = rw c.in-Exit.is c.exit_stmt.ensures.tells

pub stmt-returns-in-Exit-clause-behind : goal.stmt-returns-in-Exit-clause-behind
stmt-returns-in-Exit-clause-behind t c = rw c.in-Exit.is c.exit_stmt.ensures.behind

pub stmt-returns-in-Sleep-clause-tells : goal.stmt-returns-in-Sleep-clause-tells
stmt-returns-in-Sleep-clause-tells t c = rw c.in-Sleep.is c.sleep_stmt.ensures.tells

pub stmt-returns-in-Sleep-clause-behind : goal.stmt-returns-in-Sleep-clause-behind
stmt-returns-in-Sleep-clause-behind t c = rw c.in-Sleep.is c.sleep_stmt.ensures.behind

pub stmt-returns-in-Assert-clause-tells : goal.stmt-returns-in-Assert-clause-tells
stmt-returns-in-Assert-clause-tells t c = rw c.in-Assert.is c.assert_stmt.ensures.tells

pub stmt-returns-in-Assert-clause-behind : goal.stmt-returns-in-Assert-clause-behind
stmt-returns-in-Assert-clause-behind t c = rw c.in-Assert.is c.assert_stmt.ensures.behind

pub stmt-returns-in-State-clause-tells : goal.stmt-returns-in-State-clause-tells
stmt-returns-in-State-clause-tells t c = rw c.in-State.is c.state_stmt.ensures.tells

pub stmt-returns-in-State-clause-behind : goal.stmt-returns-in-State-clause-behind
stmt-returns-in-State-clause-behind t c = rw c.in-State.is c.state_stmt.ensures.behind

pub stmt-returns-in-Local-clause-tells : goal.stmt-returns-in-Local-clause-tells
stmt-returns-in-Local-clause-tells t c = rw c.in-Local.is c.local_vars.ensures.tells

pub stmt-returns-in-Local-clause-behind : goal.stmt-returns-in-Local-clause-behind
stmt-returns-in-Local-clause-behind t c = rw c.in-Local.is c.local_vars.ensures.behind

pub stmt-returns-in-Constant-clause-tells : goal.stmt-returns-in-Constant-clause-tells
stmt-returns-in-Constant-clause-tells t c = rw c.in-Constant.is c.local_constant.ensures.tells

pub stmt-returns-in-Constant-clause-behind : goal.stmt-returns-in-Constant-clause-behind
stmt-returns-in-Constant-clause-behind t c = rw c.in-Constant.is c.local_constant.ensures.behind

pub stmt-returns-in-Empty-clause-tells : goal.stmt-returns-in-Empty-clause-tells
stmt-returns-in-Empty-clause-tells t c = rw c.in-Empty.is c.empty.ensures

pub stmt-returns-in-Break-clause-tells : goal.stmt-returns-in-Break-clause-tells
stmt-returns-in-Break-clause-tells t c = rw c.in-Break.is c.jump.ensures

pub stmt-returns-in-Continue-clause-tells : goal.stmt-returns-in-Continue-clause-tells
stmt-returns-in-Continue-clause-tells t c = rw c.in-Continue.is c.jump-in-Continue.ensures
