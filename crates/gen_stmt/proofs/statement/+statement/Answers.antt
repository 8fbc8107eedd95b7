use Rattle.std.proofs.Common.{◌*◌, pos, length, refl, sym, ap, ◌∙◌, w32, FitsSigned, arith, rules}
use Rattle.std.proofs.lemmas.Int.{to_z-of_z}
use Rattle.pawn_meaning.specs.Program as plain
use Rattle.pawn_meaning.specs.Program.{no_else, otherwise}
use Rattle.pawn_meaning.specs.View.{expr_view, perhaps_view, stmt_view, stmts_view, else_view}
use Rattle.pawn_meaning.specs.View.{cases_view}
use Rattle.pawn_meaning.specs.ValidStmts.{slots_made}
use Rattle.pawn_meaning.proofs.ViewLaws.{stmt_view-Block, stmt_view-If, stmt_view-For}
use Rattle.pawn_meaning.proofs.ViewLaws.{stmt_view-Switch}
use Rattle.gen_laws.specs.ExprCode.{value_items}
use Rattle.gen_laws.specs.StmtCode.{step_items, stmt_items}
use Rattle.gen_laws.specs.GoesOn.{list_leaves}
use Rattle.gen_expr.proofs.PartLaws.{keeps_cells}
use Rattle.gen_stmt.proofs.BranchLaws.{only_done, first_done, if_done}
use Rattle.gen_stmt.proofs.GrownLaws.{same_grown}
use Rattle.gen_stmt.proofs.LedLaws.{in_more, landed_in}
use Rattle.gen_stmt.specs.Keeps.{scope_in}
use Rattle.gen_stmt.specs.declared.locals.Mark.{Mark}
use Rattle.gen_stmt.specs.Standing.{here_in}
use Rattle.gen_stmt.proofs.CaseLaws.{one_done, made_as, cases_first, case_pushed, cases_done}
use Rattle.gen_stmt.proofs.CaseLaws.{count_is}
use Rattle.gen_stmt.proofs.StatementListLaws.{all_left, one_less, none_left}
use Rattle.gen_stmt.proofs.ArmLaws.{seen_code}
use Rattle.gen_stmt.proofs.StandLaws.{within_same, back_to, stands_back}
use Rattle.gen_stmt.proofs.StmtLaws.{block_done, body_done, while_done, for_loop_done}
use Rattle.gen_stmt.proofs.StmtLaws.{until_loop_done, for_done}
use Rattle.gen_stmt.proofs.SwitchNodes.{switch_done}
use Rattle.gen_stmt.proofs.statement.+statement.Goals as goal

-- ---- parts

pub part-returns-clause-made : goal.part-returns-clause-made
part-returns-clause-made t c =
    let here = c.args.at.now in
    back_to here.place c.args.locals.now c.statement.new.locals c.mark-begun.result
    (slots_made (stmt_view c.args.s.now)) c.requires.stands
    c.mark-begun.ensures c.in_ok-done.ensures.made c.leave.new.self.made.items c.leave.ensures.made

pub part-returns-clause-within : goal.part-returns-clause-within
part-returns-clause-within t c =
    let here = c.args.at.now in
    within_same here.place here.since c.args.locals.now c.leave.new.self c.requires
    (stands_back here.place c.args.locals.now c.statement.new.locals c.mark-begun.result
    (slots_made (stmt_view c.args.s.now)) c.requires.stands
    c.mark-begun.ensures c.in_ok-done.ensures.made c.leave.new.self
    c.in_ok-done.ensures.within.stands c.leave.ensures.keeps)
    (back_to here.place c.args.locals.now c.statement.new.locals c.mark-begun.result
    (slots_made (stmt_view c.args.s.now)) c.requires.stands
    c.mark-begun.ensures c.in_ok-done.ensures.made c.leave.new.self.made.items c.leave.ensures.made)

pub first_part-land_all-requires : goal.first_part-land_all-requires
first_part-land_all-requires t c =
    rw c.as_slice.ensures
    (in_more _ (length c.in_ok-first.first.code.code) _ c.in_ok-first.ensures.code.long
    c.in_ok-ready.ensures.ends_in)

pub first_part-returns-clause-code : goal.first_part-returns-clause-code
first_part-returns-clause-code t c =
    let here = c.args.at.now in
    let made = c.args.locals.now.made.items in
    first_done (scope_in here.place made) (expr_view c.args.c.now) c.args.b c.in_ok-ready.ready
    c.in_ok-first.first c.in_ok-led.led c.in_ok-jumped.jumped c.in_ok-ready.ends c.in_ok-end.end
    (λ exits q. stmt_items (here_in here.place made here.since.made exits) q
    (stmt_view c.args.s.now))
    c.in_ok-ready.ensures c.in_ok-first.ensures.code
    (rw c.as_slice.ensures at c.in_ok-led.ensures) c.in_ok-jumped.ensures c.in_ok-end.ensures

pub only_part-land_all-requires : goal.only_part-land_all-requires
only_part-land_all-requires t c =
    rw c.as_slice.ensures
    (in_more _ (length c.in_ok-first.first.code.code) _ c.in_ok-first.ensures.code.long
    c.in_ok-ready.ensures.ends_in)

pub only_part-returns-clause-code : goal.only_part-returns-clause-code
only_part-returns-clause-code t c =
    let here = c.args.at.now in
    let made = c.args.locals.now.made.items in
    only_done (scope_in here.place made) (expr_view c.args.c.now) c.args.b c.in_ok-ready.ready
    c.in_ok-first.first c.in_ok-ready.ends
    (λ exits q. stmt_items (here_in here.place made here.since.made exits) q
    (stmt_view c.args.s.now))
    c.land_all.result c.in_ok-ready.ensures c.in_ok-first.ensures.code
    (rw c.as_slice.ensures at c.land_all.ensures)

pub alternative-returns-in-None-clause-code : goal.alternative-returns-in-None-clause-code
alternative-returns-in-None-clause-code t c = rw c.in-None.is (same_grown c.args.b)

-- ---- loops

pub body-returns-clause-code : goal.body-returns-clause-code
body-returns-clause-code t c =
    body_done c.args.place.now c.args.locals.now.made.items c.mark-since.result.made c.args.code
    c.new-begun.result c.in_ok-done.done (stmt_view c.args.s.now)
    c.new-begun.ensures (ap (λ (m : Mark). m.made) c.mark-since.ensures) c.in_ok-done.ensures.code

pub while_do-land-requires : goal.while_do-land-requires
while_do-land-requires t c = omega (arith, c.in_ok-hole.ensures, c.in_ok-passed.ensures.code.long)

pub while_do-close-requires-clause-jumps : goal.while_do-close-requires-clause-jumps
while_do-close-requires-clause-jumps t c = c.in_ok-told.ensures.inside tt

pub while_do-close-requires-clause-exits : goal.while_do-close-requires-clause-exits
while_do-close-requires-clause-exits t c =
    rw c.as_slice.ensures
    (landed_in c.in_ok-passed.field-0.code c.in_ok-landed.landed
    (length c.in_ok-told.told.code.code) c.in_ok-hole.hole _ _ c.in_ok-landed.ensures
    c.in_ok-told.ensures.long (c.in_ok-passed.ensures.code.inside tt))

pub while_do-returns-clause-code : goal.while_do-returns-clause-code
while_do-returns-clause-code t c =
    let here = c.args.at.now in
    let f : FitsSigned w32 c.in_ok-start.start = search rules in
    let g : FitsSigned w32 c.in_ok-more.more = search rules in
    while_done here.place c.args.locals.now.made.items c.args.b c.in_ok-begun.begun
    c.in_ok-landed.landed c.in_ok-code.code c.in_ok-told.told _ (expr_view c.args.c.now)
    (stmt_view c.args.s.now) c.in_ok-start.start c.in_ok-more.more
    c.in_ok-hole.hole c.in_ok-begun.ensures c.in_ok-hole.ensures c.in_ok-start.ensures
    c.in_ok-passed.ensures.code c.in_ok-more.ensures c.in_ok-landed.ensures
    (rw c.in_ok-passed.ensures.made at c.in_ok-told.ensures)
    (rw (to_z-of_z w32 c.in_ok-start.start f, to_z-of_z w32 c.in_ok-more.more g, c.as_slice.ensures)
    at c.in_ok-code.ensures)

pub for_loop-land-requires : goal.for_loop-land-requires
for_loop-land-requires t c =
    omega (
      arith,
      c.in_ok-hole.ensures,
      c.in_ok-passed.ensures.code.long,
      keeps_cells _ c.in_ok-stepped.stepped
          (step_items (scope_in c.args.place.now c.body.new.locals.made.items) _
          (perhaps_view c.args.next.now)) c.in_ok-stepped.ensures,
    )

pub for_loop-close-requires-clause-jumps : goal.for_loop-close-requires-clause-jumps
for_loop-close-requires-clause-jumps t c = c.in_ok-told.ensures.inside tt

pub for_loop-close-requires-clause-exits : goal.for_loop-close-requires-clause-exits
for_loop-close-requires-clause-exits t c =
    let scope = scope_in c.args.place.now c.body.new.locals.made.items in
    rw c.as_slice.ensures
    (landed_in c.in_ok-stepped.stepped c.in_ok-landed.landed
    (length c.in_ok-told.told.code.code) c.in_ok-hole.hole _ _ c.in_ok-landed.ensures
    c.in_ok-told.ensures.long
    (in_more _ (length c.in_ok-stepped.stepped.code) _ (keeps_cells _ c.in_ok-stepped.stepped
    (step_items scope _ (perhaps_view c.args.next.now)) c.in_ok-stepped.ensures)
    (c.in_ok-passed.ensures.code.inside tt)))

pub for_loop-returns-clause-code : goal.for_loop-returns-clause-code
for_loop-returns-clause-code t c =
    let f : FitsSigned w32 c.in_ok-start.start = search rules in
    let g : FitsSigned w32 c.in_ok-more.more = search rules in
    for_loop_done c.args.place.now c.args.locals.now.made.items c.args.b c.in_ok-begun.begun
    c.in_ok-stepped.stepped c.in_ok-landed.landed c.in_ok-code.code c.in_ok-told.told _
    (perhaps_view c.args.c.now) (perhaps_view c.args.next.now) (stmt_view c.args.s.now)
    c.in_ok-start.start c.in_ok-more.more c.in_ok-hole.hole c.in_ok-begun.ensures
    c.in_ok-hole.ensures c.in_ok-start.ensures c.in_ok-passed.ensures.code
    c.in_ok-more.ensures (rw c.in_ok-passed.ensures.made at c.in_ok-stepped.ensures)
    c.in_ok-landed.ensures (rw c.in_ok-passed.ensures.made at c.in_ok-told.ensures)
    (rw (to_z-of_z w32 c.in_ok-start.start f, to_z-of_z w32 c.in_ok-more.more g, c.as_slice.ensures)
    at c.in_ok-code.ensures)

pub do_while-close_until-requires : goal.do_while-close_until-requires
do_while-close_until-requires t c =
    let here = c.args.at.now in
    rw c.as_slice.ensures
    (in_more _ (length c.in_ok-tested.tested.code) _ (keeps_cells _ c.in_ok-tested.tested
    (value_items (scope_in here.place c.body.new.locals.made.items) _
    (expr_view c.args.c.now)) c.in_ok-tested.ensures)
    (c.in_ok-passed.ensures.code.inside tt))

pub do_while-returns-clause-code : goal.do_while-returns-clause-code
do_while-returns-clause-code t c =
    let here = c.args.at.now in
    let f : FitsSigned w32 c.in_ok-top.top = search rules in
    let g : FitsSigned w32 c.in_ok-more.more = search rules in
    until_loop_done here.place c.args.locals.now.made.items c.args.b c.in_ok-begun.begun
    c.in_ok-tested.tested c.in_ok-code.code _
    (expr_view c.args.c.now) (stmt_view c.args.s.now) c.in_ok-top.top c.in_ok-more.more
    c.in_ok-top.ensures c.in_ok-begun.ensures
    c.in_ok-passed.ensures.code c.in_ok-more.ensures
    (rw c.in_ok-passed.ensures.made at c.in_ok-tested.ensures)
    (rw (to_z-of_z w32 c.in_ok-top.top f, to_z-of_z w32 c.in_ok-more.more g, c.as_slice.ensures) at
    c.in_ok-code.ensures)

-- ---- lists

pub statements-loop-i-init : goal.statements-loop-i-init
statements-loop-i-init t c =
    let here = c.args.at.now in
    all_left here.place here.since c.args.locals.now c.as_slice-items.result.now c.args.b
    c.requires

pub statements-loop-i-preserved : goal.statements-loop-i-preserved
statements-loop-i-preserved t c =
    let here = c.args.at.now in
    one_less here.place here.since c.args.locals.now c.loop-i.locals c.statement.new.locals
    c.as_slice-items.result.now c.loop-i.i
    c.index-items-i.result c.args.b c.loop-i.grown c.in_ok-grown.grown
    (omega arith) c.index-items-i.is c.loop-i.invariant
    c.in_ok-grown.ensures.made c.in_ok-grown.ensures.within c.in_ok-grown.ensures.code

pub statements-returns-clause-code : goal.statements-returns-clause-code
statements-returns-clause-code t c =
    let here = c.args.at.now in
    rw (sym c.as_slice-items.ensures)
    (none_left here.place here.since c.args.locals.now c.loop-i.locals
    c.as_slice-items.result.now c.loop-i.i c.args.b c.loop-i.grown
    (omega arith) c.loop-i.invariant).1

-- ---- cases

pub all_cases-loop-i-init : goal.all_cases-loop-i-init
all_cases-loop-i-init t c =
    let here = c.args.at.now in (
      refl,
      c.requires,
      cases_first here.place c.args.locals.now.made.items here.since.made
          c.as_slice-items.result.now _ c.in_ok-draft.draft
          c.new-begins.result c.new-ends.result c.in_ok-draft.ensures c.new-begins.ensures
          c.new-ends.ensures,
    )

pub one_case-returns-clause-code : goal.one_case-returns-clause-code
one_case-returns-clause-code t c =
    let here = c.args.at.now in
    one_done c.args.b c.in_ok-done.done c.in_ok-jumped.jumped c.in_ok-hole.hole
    (λ exits. stmt_items (here_in here.place c.args.locals.now.made.items here.since.made exits)
    (4 * length c.args.b.code.code)
    (stmt_view c.args.case.now.stmt)) c.in_ok-done.ensures.code c.in_ok-jumped.ensures
    c.in_ok-hole.ensures.at c.in_ok-hole.ensures.exit

pub all_cases-loop-i-preserved : goal.all_cases-loop-i-preserved
all_cases-loop-i-preserved t c =
    let here = c.args.at.now in
    let f : FitsSigned w32 c.in_ok-address.field-0 = search rules in (
      c.in_ok-next.ensures.made ∙ c.loop-i.invariant.0,
      c.in_ok-next.ensures.within,
      case_pushed here.place c.args.locals.now.made.items here.since.made
          c.as_slice-items.result.now c.loop-i.i c.index-items-i.result _
          c.loop-i.draft _ c.loop-i.begins _ c.loop-i.ends _ c.in_ok-address.field-0 _
          (omega arith) c.index-items-i.is c.loop-i.invariant.2 c.in_ok-address.ensures
          (made_as here.place c.loop-i.locals.made.items c.args.locals.now.made.items
          here.since.made (4 * length c.loop-i.draft.code.code)
          c.loop-i.draft _ _ (stmt_view c.index-items-i.result.stmt) c.loop-i.invariant.0
          c.in_ok-next.ensures.code)
          (rw (to_z-of_z w32 c.in_ok-address.field-0 f) at c.in_ok-push.ensures.ok)
          c.in_ok-push-2.ensures.ok,
    )

pub all_cases-returns-clause-cased : goal.all_cases-returns-clause-cased
all_cases-returns-clause-cased t c =
    let here = c.args.at.now in
    let f : FitsSigned w32 c.in_ok-default.default = search rules in
    rw (to_z-of_z w32 c.in_ok-default.default f, sym c.as_slice-items.ensures)
    (cases_done here.place c.args.locals.now.made.items here.since.made
    c.as_slice-items.result.now c.loop-i.i c.args.b _ c.loop-i.draft _
    (omega arith) refl c.loop-i.invariant.2 c.in_ok-table.ensures c.in_ok-default.ensures)

-- ---- statements by their parts

pub block-returns-clause-code : goal.block-returns-clause-code
block-returns-clause-code t c =
    let here = c.args.at.now in
    let made = c.args.locals.now.made.items in
    block_done here.place here.since.made c.args.locals.now.cells made
    c.statements.new.locals.made.items c.mark-begun.result
    (stmts_view c.args.list.now) c.list_leaves-never.result c.args.b
    c.in_ok-done.done c.leave_block.result
    (c.list_leaves-never.ensures ∙ ap (λ l. list_leaves (stmts_view l)) c.as_slice.ensures)
    c.in_ok-done.ensures.code c.mark-begun.ensures
    c.in_ok-done.ensures.made c.leave_block.ensures.code

pub both_parts-land-requires : goal.both_parts-land-requires
both_parts-land-requires t c =
    omega (arith, c.in_ok-first.ensures.code.ends_in.0, c.in_ok-second.ensures.code.long)

pub both_parts-returns-clause-code : goal.both_parts-returns-clause-code
both_parts-returns-clause-code t c =
    let here = c.args.at.now in
    let made = c.args.locals.now.made.items in
    if_done (scope_in here.place made) (expr_view c.args.c.now) c.args.b c.in_ok-first.first
    c.in_ok-second.second c.in_ok-first.end
    (λ exits q. stmt_items (here_in here.place made here.since.made exits) q
    (stmt_view c.args.one.now))
    (λ exits q. stmt_items (here_in here.place made here.since.made exits) q
    (stmt_view c.args.other.now)) c.land.result c.in_ok-first.ensures.code
    (rw c.in_ok-first.ensures.made at c.in_ok-second.ensures.code) c.land.ensures

-- ---- statements

pub statement-returns-in-Block-clause-code : goal.statement-returns-in-Block-clause-code
statement-returns-in-Block-clause-code t c =
    let here = c.args.at.now in
    seen_code c.block.result here.place c.args.locals.now.made.items here.since.made
    (4 * length c.args.b.code.code) c.args.b (stmt_view c.args.s.now)
    (plain.Block (stmts_view c.in-Block.list))
    (ap stmt_view c.in-Block.is ∙ stmt_view-Block c.in-Block.list) c.block.ensures.code

pub statement-returns-in-Some-clause-code : goal.statement-returns-in-Some-clause-code
statement-returns-in-Some-clause-code t c =
    let here = c.args.at.now in
    seen_code c.both_parts.result here.place c.args.locals.now.made.items here.since.made
    (4 * length c.args.b.code.code) c.args.b (stmt_view c.args.s.now)
    (plain.If (expr_view c.in-If.c) (stmt_view c.in-If.a.value)
    (otherwise (stmt_view c.in-Some.s.value)))
    (ap stmt_view c.in-If.is ∙ stmt_view-If c.in-If.c c.in-If.a c.in-If.other
    ∙ ap (λ o. plain.If (expr_view c.in-If.c) (stmt_view c.in-If.a.value) (else_view o)) c.in-Some.is)
    (rw (c.deref-in-Some.ensures, c.deref-in-Some-2.ensures) at c.both_parts.ensures.code)

pub statement-returns-in-None-clause-code : goal.statement-returns-in-None-clause-code
statement-returns-in-None-clause-code t c =
    let here = c.args.at.now in
    let made = c.args.locals.now.made.items in
    let p = 4 * length c.args.b.code.code in
    let scope = scope_in here.place made in
    let test = expr_view c.in-If.c in
    seen_code c.only_part.result here.place made here.since.made p c.args.b
    (stmt_view c.args.s.now) (plain.If test (stmt_view c.in-If.a.value) no_else)
    (ap stmt_view c.in-If.is ∙ stmt_view-If c.in-If.c c.in-If.a c.in-If.other
    ∙ ap (λ o. plain.If test (stmt_view c.in-If.a.value) (else_view o)) c.in-None.is)
    (rw c.deref.ensures at c.only_part.ensures.code)

pub statement-returns-in_ok-done-in-For-clause-code
    : goal.statement-returns-in_ok-done-in-For-clause-code
statement-returns-in_ok-done-in-For-clause-code t c =
    let here = c.args.at.now in
    let made = c.args.locals.now.made.items in
    seen_code c.leave_block.result here.place made here.since.made
    (4 * length c.args.b.code.code) c.args.b (stmt_view c.args.s.now)
    (plain.For (stmts_view c.in-For.first) (perhaps_view c.in-For.c) (perhaps_view c.in-For.next)
    (stmt_view c.in-For.s.value))
    (ap stmt_view c.in-For.is ∙ stmt_view-For c.in-For.first c.in-For.c c.in-For.next c.in-For.s)
    (for_done here.place here.since.made c.args.locals.now.cells made
    c.statements.new.locals.made.items c.for_loop.new.locals.made.items
    c.mark-begun.result (stmts_view c.in-For.first) (perhaps_view c.in-For.c)
    (perhaps_view c.in-For.next) (stmt_view c.in-For.s.value)
    c.args.b c.in_ok-ready-in-For.ready c.in_ok-done-in-For.done c.leave_block.result
    c.requires.mark.0 c.in_ok-ready-in-For.ensures.code
    c.mark-begun.ensures c.in_ok-ready-in-For.ensures.made
    (rw c.deref-in-For.ensures at c.in_ok-done-in-For.ensures.code)
    c.in_ok-done-in-For.ensures.made c.leave_block.ensures.code)

pub statement-close-requires-clause-each : goal.statement-close-requires-clause-each
statement-close-requires-clause-each t c =
    rw c.as_slice.ensures
    (c.in_ok-cased-in-Switch.ensures.cased.count ∙ count_is c.in-Switch.cases)

pub statement-close-requires-clause-ends : goal.statement-close-requires-clause-ends
statement-close-requires-clause-ends t c =
    in_more _ (length c.in_ok-done-in-Switch.done.code.code) _
    c.in_ok-done-in-Switch.ensures.code.long c.in_ok-cased-in-Switch.ensures.cased.code.ends_in

pub statement-returns-in_ok-done-in-Switch-clause-code
    : goal.statement-returns-in_ok-done-in-Switch-clause-code
statement-returns-in_ok-done-in-Switch-clause-code t c =
    let here = c.args.at.now in
    let made = c.args.locals.now.made.items in
    let p = 4 * length c.args.b.code.code in
    seen_code c.close.result here.place made here.since.made p c.args.b
    (stmt_view c.args.s.now)
    (plain.Switch (expr_view c.in-Switch.e) (cases_view c.in-Switch.cases)
    (else_view c.in-Switch.other))
    (ap stmt_view c.in-Switch.is ∙ stmt_view-Switch c.in-Switch.e c.in-Switch.cases
    c.in-Switch.other)
    (switch_done here.place made here.since.made c.args.b c.in_ok-valued-in-Switch.valued _
    c.in_ok-done-in-Switch.done _ c.close.result
    (cases_view c.in-Switch.cases) (else_view c.in-Switch.other)
    (value_items (scope_in here.place made) p (expr_view c.in-Switch.e))
    c.in_ok-valued-in-Switch.ensures c.in_ok-cased-in-Switch.ensures.cased
    (rw c.in_ok-cased-in-Switch.ensures.made at c.in_ok-done-in-Switch.ensures.code)
    (rw c.as_slice.ensures at c.close.ensures))
