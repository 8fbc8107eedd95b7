use Rattle.std.proofs.Common.{◌≡◌, ◌*◌, ◌-◌, ℕ, List, drop, take, length, length-drop, w32}
use Rattle.std.proofs.Common.{FitsSigned, arith, rules}
use Rattle.std.proofs.lemmas.Int.{to_z-of_z}
use Rattle.std.proofs.lemmas.List.{take_all}
use Rattle.check_calls.proofs.PackedTextLaws.{packed_next}
use Rattle.check_calls.proofs.text_cells.whole_cell.Goals as goal

pub returns : goal.returns
returns c =
    let bytes = c.args.bytes.now in
    let begin : ℕ = 4 * c.args.i in
    let fits : FitsSigned w32 c.first_cell.result = search rules in
    let rest : List ℕ = take (length bytes - begin) (drop begin bytes) in
    let is_rest : rest ≡ drop begin bytes =
    take_all (length bytes - begin) (drop begin bytes) (omega (arith, length-drop begin bytes)) in
    rw (to_z-of_z w32 c.first_cell.result fits)
    (packed_next bytes rest c.args.i c.first_cell.result is_rest c.first_cell.ensures)
