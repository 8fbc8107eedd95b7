use Rattle.std.proofs.Common.{[], ◌∷◌, w32, FitsSigned, to_z, of_z, ap, ◌∙◌}
use Rattle.std.proofs.lemmas.Int.{to_z-of_z}
use Rattle.gen_sim.specs.Items.{Plain, with}
use Rattle.gen_expr.specs.Built.{with_items}
use Rattle.gen_expr.proofs.BuilderLaws.{encodable_as, put_is}
use Rattle.gen_expr.proofs.builder.Builder.put.Goals as goal

pub encode-requires : goal.encode-requires
encode-requires c =
    let f : FitsSigned w32 c.args.operand = c.ranges.operand in
    encodable_as c.args.op c.number.result (to_z w32 (of_z w32 c.args.operand)) c.number.ensures
    (rw (to_z-of_z w32 c.args.operand f) c.requires)

pub returns : goal.returns
returns c =
    let f : FitsSigned w32 c.args.operand = c.ranges.operand in
    put_is c.args.op c.number.result c.args.operand
    (record { code = c.grown.inside.code; waits = c.grown.inside.waits }) c.encode.new.out
    c.number.ensures (rw (to_z-of_z w32 c.args.operand f) at c.in_ok-encode.ensures)
    ∙ ap (λ b. with_items (Plain (with c.args.op c.args.operand) ∷ []) b) c.grown.view_is
