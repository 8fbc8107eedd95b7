use Rattle.std.proofs.Common.{pos, ap, ◌∙◌}
use Rattle.pawn_meaning.specs.View.{stmt_view}
use Rattle.gen_stmt.specs.Led.{all_led}
use Rattle.gen_stmt.specs.declared.locals.Mark.{Mark}
use Rattle.gen_module.proofs.BodyStatementLaws.{whole_done}
use Rattle.gen_module.proofs.bodies.body_statement.Goals as goal

pub returns : goal.returns
returns c =
    let r = c.in_ok-done.done in
    whole_done c.args.place.now c.in_ok-locals.locals.made.items c.mark-since.result.made
    c.args.code c.new-begun.result r (stmt_view c.args.s.now)
    c.lead_out.result c.in_ok-locals.ensures.made
    (ap (λ (m : Mark). m.made) c.mark-since.ensures) c.new-begun.ensures
    c.in_ok-done.ensures.code
    (c.lead_out.ensures ∙ ap (λ l. all_led (pos 0) (pos 0) l r.code) c.as_slice.ensures)
