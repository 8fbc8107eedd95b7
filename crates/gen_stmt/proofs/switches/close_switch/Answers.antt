use Rattle.std.proofs.Common.{◌≡◌, ◌+◌, length, length-set, sym, ap, subst, ◌∙◌}
use Rattle.pawn_meaning.specs.View.{cases_view}
use Rattle.gen_expr.specs.Built.{Built}
use Rattle.gen_stmt.specs.Over.{cases_pairs}
use Rattle.gen_stmt.proofs.OverLaws.{over_cells}
use Rattle.gen_stmt.specs.Led.{AreIn}
use Rattle.gen_stmt.proofs.switches.close_switch.Goals as goal

pub lead_out-code-requires : goal.lead_out-code-requires
lead_out-code-requires c =
    let cells : length c.write_cases-written.result.code ≡ length c.args.b.code.code =
    ap (λ (z : Built). length z.code) c.write_cases-written.ensures
    ∙ over_cells (c.args.at + 1) (cases_pairs (cases_view c.args.cases.now) c.args.begins.now)
    c.fill.new.self
    ∙ ap (λ (z : Built). length z.code) c.fill.ensures ∙ length-set _ _ _ in
    subst (λ n. AreIn n c.args.ends.now) (sym cells) c.requires.ends
