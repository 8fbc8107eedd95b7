use Rattle.std.proofs.Common.{◌≤◌, [], ◌∷◌, length, w32, to_z, of_z, FitsSigned}
use Rattle.std.proofs.Common.{arith, rules}
use Rattle.std.proofs.lemmas.Int.{to_z-of_z}
use Rattle.amx_ops.specs.declared.op.Op.TheVariants as op
use Rattle.gen_sim.specs.SimpleCode.{taking}
use Rattle.gen_expr.proofs.PartLaws.{keeps_cells}
use Rattle.gen_stmt.proofs.LedLaws.{in_more}
use Rattle.gen_stmt.proofs.StmtLaws.{until_ended}
use Rattle.gen_stmt.proofs.loops.close_until.Goals as goal

pub lead_out-requires : goal.lead_out-requires
lead_out-requires c =
    let left : length c.args.tested.code ≤ length c.in_ok-left.left.code =
    keeps_cells c.args.tested c.in_ok-left.left
    (taking op.Jzer (to_z w32 (of_z w32 c.in_ok-end.end)) ∷ []) c.in_ok-left.ensures in
    let back : length c.in_ok-left.left.code ≤ length c.in_ok-back.back.code =
    keeps_cells c.in_ok-left.left c.in_ok-back.back
    (taking op.Jump (to_z w32 (of_z w32 c.args.top)) ∷ []) c.in_ok-back.ensures in
    in_more (length c.args.tested.code) (length c.in_ok-back.back.code) c.args.holes.now
    (omega (arith, left, back)) c.requires

pub returns : goal.returns
returns c =
    let f : FitsSigned w32 c.in_ok-end.end = search rules in
    let g : FitsSigned w32 c.args.top = c.ranges.top in
    let h : FitsSigned w32 c.args.more = c.ranges.more in
    until_ended c.args.tested c.in_ok-left.left c.in_ok-back.back c.lead_out.result c.args.holes.now
    c.args.top c.args.more c.in_ok-end.end
    (rw c.code.ensures at c.in_ok-end.ensures)
    (rw (to_z-of_z w32 c.in_ok-end.end f) at c.in_ok-left.ensures)
    (rw (to_z-of_z w32 c.args.top g) at c.in_ok-back.ensures)
    (rw (to_z-of_z w32 c.in_ok-end.end f, to_z-of_z w32 c.args.more h) at c.lead_out.ensures)
