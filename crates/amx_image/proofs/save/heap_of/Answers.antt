use Rattle.std.proofs.Common.{◌≡◌, ◌/◌, rules, take, ap, ◌∙◌}
use Rattle.pawn_cells.specs.Cells.{bits_of}
use Rattle.amx_ops.specs.Moves.{live_from}
use Rattle.amx_image.proofs.SaveLaws.{hea_back, heap_is}
use Rattle.amx_image.proofs.save.heap_of.Goals as goal

pub returns : goal.returns
returns c =
    let m = c.args.machine.now in
    let k = c.registers.ensures.kept in
    let bits : c.cast_unsigned-count.result ≡ bits_of c.registers.result.hea = search rules in
    let count = bits ∙ ap (λ r. bits_of r.hea) c.registers.ensures.value ∙ hea_back m k in
    let part : c.live_from.result.now ≡ live_from m.state 0 = search rules in
    ap (λ n. take (n / 4) c.live_from.result.now) count ∙ ap (take (m.state.hea / 4)) part
    ∙ heap_is m k
