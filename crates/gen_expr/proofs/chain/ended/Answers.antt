use Rattle.std.proofs.Common.{◌<◌, [], ◌∷◌, length, w32, FitsSigned, arith, rules}
use Rattle.std.proofs.lemmas.Grind.{common_steps}
use Rattle.std.proofs.lemmas.Int.{to_z-of_z}
use Rattle.amx_ops.specs.declared.op.Op.TheVariants as op
use Rattle.gen_sim.specs.SimpleCode.{alone, taking}
use Rattle.gen_sim.specs.JumpCode.{truth_code}
use Rattle.gen_expr.proofs.PartLaws.{keeps_cells}
use Rattle.gen_expr.proofs.ChainLaws.{more_in}
use Rattle.gen_expr.proofs.HoleLaws.{ended_done}
use Rattle.gen_expr.proofs.chain.ended.Goals as goal

pub lead_all-requires : goal.lead_all-requires
lead_all-requires c =
    let f : FitsSigned w32 c.in_ok-end.end = search rules in
    let made = keeps_cells c.args.b c.in_ok-made.made truth_code c.in_ok-made.ensures in
    let jumped =
    keeps_cells c.in_ok-made.made c.in_ok-jumped.jumped
    (taking op.Jump c.in_ok-end.end ∷ [])
    (rw (to_z-of_z w32 c.in_ok-end.end f) at c.in_ok-jumped.ensures) in
    let failed =
    keeps_cells c.in_ok-jumped.jumped c.in_ok-failed.failed
    (alone op.PopAlt ∷ []) c.in_ok-failed.ensures in
    more_in (length c.args.b.code) (length c.in_ok-failed.failed.code) c.args.holes.now
    (omega arith) c.requires

pub returns : goal.returns
returns c =
    let f : FitsSigned w32 c.in_ok-end.end = search rules in
    let g : FitsSigned w32 c.in_ok-fail.fail = search rules in
    let some : 0 < length c.args.holes.now = grind (arith, common_steps) in
    ended_done c.args.holes.now c.args.b c.in_ok-made.made c.in_ok-jumped.jumped
    c.in_ok-failed.failed c.lead_all.result
    c.in_ok-fail.fail c.in_ok-end.end some (rw c.code.ensures at c.in_ok-fail.ensures)
    (rw c.code.ensures at c.in_ok-end.ensures) c.in_ok-made.ensures
    (rw (to_z-of_z w32 c.in_ok-end.end f) at c.in_ok-jumped.ensures) c.in_ok-failed.ensures
    (rw (to_z-of_z w32 c.in_ok-fail.fail g) at c.lead_all.ensures)
