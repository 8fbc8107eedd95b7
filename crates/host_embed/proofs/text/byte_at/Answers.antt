use Rattle.std.proofs.Common.{arith, w32, rules, FitsSigned, sym, ap, ◌∙◌, ◌<◌, ◌*◌, length, get_or, pos, ◌/◌, ◌%◌}
use Rattle.std.proofs.lemmas.Int.{to_z-of_z}
use Rattle.host_embed.proofs.TextLaws.{spread_length, byte_is, byte_of}
use Rattle.host_embed.proofs.text.byte_at.Goals as goal

pub bounds-cells-index : goal.bounds-cells-index
bounds-cells-index c = omega (arith, c.requires, spread_length c.args.cells.now)

pub returns : goal.returns
returns c =
    let cells = c.args.cells.now in
    let k = c.args.index in
    let cell = get_or cells (k / 4) (pos 0) in
    let fits : FitsSigned w32 c.from.result = search rules in
    let cell_fits : FitsSigned w32 cell = search rules in
    let bytes = rw (to_z-of_z w32 cell cell_fits) at c.to_be_bytes-bytes.ensures in
    let within : k < 4 * length cells = omega (arith, c.requires, spread_length cells) in
    rw (to_z-of_z w32 c.from.result fits)
    (c.from.ensures ∙ ap (λ bs. pos (get_or bs (k % 4) 0)) bytes
    ∙ sym (byte_is cells k within ∙ byte_of cell (k % 4) (omega arith)))
