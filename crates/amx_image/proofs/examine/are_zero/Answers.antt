use Rattle.std.proofs.Common.{◌≡◌, pos, w32, FitsSigned, rules, sym, ap, ◌∙◌, to_z, of_z}
use Rattle.std.proofs.lemmas.Int.{to_z-of_z}
use Rattle.amx_image.proofs.RowLaws.{zero_more, other_cell}
use Rattle.amx_image.proofs.examine.are_zero.Goals as goal

pub returns-then-read_cell-ne0 : goal.returns-then-read_cell-ne0
returns-then-read_cell-ne0 c =
    let l = c.loop-index in
    sym (l.invariant ∙ other_cell c.args.bytes.now c.args.place c.args.count l.index
    c.loop-index-test.true
    (λ e. c.if-read_cell-ne0.true (ap (of_z w32) (c.read_cell.ensures ∙ e))))

pub loop-index-preserved : goal.loop-index-preserved
loop-index-preserved c =
    let l = c.loop-index in
    let fits : FitsSigned w32 c.read_cell.result = search rules in
    let zero : c.read_cell.result ≡ pos 0 =
    sym (to_z-of_z w32 c.read_cell.result fits) ∙ ap (to_z w32) c.if-read_cell-ne0.false in
    l.invariant ∙ zero_more c.args.bytes.now c.args.place c.args.count l.index
    c.loop-index-test.true (sym c.read_cell.ensures ∙ zero)
