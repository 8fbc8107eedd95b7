use Rattle.std.proofs.Common.{ℕ, ◌*◌, length, sym, ap, ◌∙◌, is_some, Ok, not as no}
use Rattle.pawn_meaning.specs.Program.{Unary}
use Rattle.pawn_meaning.specs.View.{expr_view}
use Rattle.gen_laws.specs.BranchItems.{jump_items}
use Rattle.gen_expr.specs.Standing.{scope_of}
use Rattle.gen_stmt.proofs.LedLaws.{in_more}
use Rattle.gen_stmt.proofs.BranchLaws.{both_grown, past_grown, own_ended}
use Rattle.gen_stmt.proofs.KindLaws.{folded_done, not_done, and_both, and_past, or_both, or_past}
use Rattle.gen_stmt.proofs.conditions.+jump_where.Goals as goal

pub jump_where-returns-then-is_some : goal.jump_where-returns-then-is_some
jump_where-returns-then-is_some t c =
    folded_done (scope_of c.args.frame.now) c.args.when c.args.b (expr_view c.args.e.now)
    c.jump_by_test.result (ap is_some (sym c.folded.ensures) ∙ sym c.is_some.ensures
    ∙ c.if-is_some.true) c.jump_by_test.ensures

pub jump_where-returns-in-Not : goal.jump_where-returns-in-Not
jump_where-returns-in-Not t c =
    let x = expr_view c.in-Unary.x.value in
    not_done (scope_of c.args.frame.now) c.args.when c.args.b (expr_view c.args.e.now)
    c.jump_where.result x
    (ap expr_view c.in-Unary.is ∙ ap (λ o. Unary o x) c.in-Not.is)
    (ap is_some (sym c.folded.ensures) ∙ sym c.is_some.ensures ∙ c.if-is_some.false)
    (rw c.deref.ensures at c.jump_where.ensures)

pub jump_where-returns-then-when : goal.jump_where-returns-then-when
jump_where-returns-then-when t c =
    and_past (scope_of c.args.frame.now) c.args.when c.args.b (expr_view c.args.e.now)
    (expr_view c.in-And.x.value) (expr_view c.in-And.y.value) c.jump_past.result
    c.if-when.true (ap expr_view c.in-And.is)
    (ap is_some (sym c.folded.ensures) ∙ sym c.is_some.ensures ∙ c.if-is_some.false)
    (rw (c.deref-then-when.ensures, c.deref-then-when-2.ensures) at c.jump_past.ensures)

pub jump_where-returns-else-when : goal.jump_where-returns-else-when
jump_where-returns-else-when t c =
    and_both (scope_of c.args.frame.now) c.args.when c.args.b (expr_view c.args.e.now)
    (expr_view c.in-And.x.value) (expr_view c.in-And.y.value) c.jump_both.result
    c.if-when.false (ap expr_view c.in-And.is)
    (ap is_some (sym c.folded.ensures) ∙ sym c.is_some.ensures ∙ c.if-is_some.false)
    (rw (c.deref-else-when.ensures, c.deref-else-when-2.ensures) at c.jump_both.ensures)

pub jump_where-returns-then-when-2 : goal.jump_where-returns-then-when-2
jump_where-returns-then-when-2 t c =
    or_both (scope_of c.args.frame.now) c.args.when c.args.b (expr_view c.args.e.now)
    (expr_view c.in-Or.x.value) (expr_view c.in-Or.y.value) c.jump_both-then-when-2.result
    c.if-when-2.true (ap expr_view c.in-Or.is)
    (ap is_some (sym c.folded.ensures) ∙ sym c.is_some.ensures ∙ c.if-is_some.false)
    (rw (c.deref-then-when-2-2.ensures, c.deref-then-when-2-3.ensures) at
    c.jump_both-then-when-2.ensures)

pub jump_where-returns-else-when-2 : goal.jump_where-returns-else-when-2
jump_where-returns-else-when-2 t c =
    or_past (scope_of c.args.frame.now) c.args.when c.args.b (expr_view c.args.e.now)
    (expr_view c.in-Or.x.value) (expr_view c.in-Or.y.value) c.jump_past-else-when-2.result
    c.if-when-2.false (ap expr_view c.in-Or.is)
    (ap is_some (sym c.folded.ensures) ∙ sym c.is_some.ensures ∙ c.if-is_some.false)
    (rw (c.deref-else-when-2-2.ensures, c.deref-else-when-2-3.ensures) at
    c.jump_past-else-when-2.ensures)

pub jump_both-returns : goal.jump_both-returns
jump_both-returns t c =
    both_grown {E = ℕ} (scope_of c.args.frame.now) c.args.when (expr_view c.args.x.now)
    (expr_view c.args.y.now) c.args.b c.in_ok-left.left (Ok c.in_ok-both.both)
    c.in_ok-left.ensures c.in_ok-both.ensures

pub jump_past-land_all-requires : goal.jump_past-land_all-requires
jump_past-land_all-requires t c =
    rw c.as_slice.ensures
    (in_more _ (length c.in_ok-right.right.code.code) _ c.in_ok-right.ensures.long
    c.in_ok-left.ensures.ends_in)

pub jump_past-returns : goal.jump_past-returns
jump_past-returns t c =
    past_grown (scope_of c.args.frame.now) c.args.when (expr_view c.args.x.now)
    (expr_view c.args.y.now) c.args.b c.in_ok-left.left c.in_ok-right.right c.in_ok-left.ends
    c.land_all.result c.in_ok-left.ensures c.in_ok-right.ensures
    (rw c.as_slice.ensures at c.land_all.ensures)

pub open-returns : goal.open-returns
open-returns t c =
    own_ended c.args.b c.in_ok-code.field-0
    (λ to. jump_items (scope_of c.args.frame.now) c.args.when to (4 * length c.args.b.code.code)
    (expr_view c.args.e.now)) (rw c.new-begun.ensures at c.in_ok-code.ensures)
