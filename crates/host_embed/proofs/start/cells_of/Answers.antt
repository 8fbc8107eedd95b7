use Rattle.std.proofs.Common.{◌≡◌, rules, ap, ◌∙◌}
use Rattle.pawn_cells.specs.Cells.{bits_of}
use Rattle.amx_ops.specs.Moves.{live_from}
use Rattle.amx_image.proofs.SaveLaws.{count_is}
use Rattle.host_embed.proofs.start.cells_of.Goals as goal

pub returns-clause-count : goal.returns-clause-count
returns-clause-count c =
    let m = c.args.machine.now in
    let stk = ap (λ r. bits_of r.stk) c.registers-stk.ensures.value in
    let bits : c.cast_unsigned.result ≡ bits_of c.registers-stk.result.stk = search rules in
    let part : c.live_from.result.now ≡ live_from m.state (bits_of c.registers-stk.result.stk) =
    search rules in
    count_is m c.registers-stk.ensures.kept _ _ (bits ∙ stk) (part ∙ ap (live_from m.state) stk)
