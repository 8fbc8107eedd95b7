use Rattle.std.proofs.Common.{rules, refl}
use Rattle.pawn_cells.specs.Cells.{IsCell}
use Rattle.pawn_cells.proofs.DivisionLemmas.{Divided, divided, quotient_alike, quotient_below}
use Rattle.pawn_cells.proofs.cell.Cell.floor_div.Goals as goal

pub overflow_sub-result : goal.overflow_sub-result
overflow_sub-result c =
    let division : Divided c.args.self.0 c.args.divisor.0 c.wrapping_rem.result =
    divided (search rules) (search rules) (search rules) (search rules) c.wrapping_rem.ensures
    in
    let quotient : IsCell c.wrapping_div-quotient.result = search rules in
    (quotient_below _ _ _ _ division quotient c.wrapping_div-quotient.ensures
    (c.if-is_below.ensures.0 refl)).fits

pub returns-then-is_below-clause-value : goal.returns-then-is_below-clause-value
returns-then-is_below-clause-value c =
    let division : Divided c.args.self.0 c.args.divisor.0 c.wrapping_rem.result =
    divided (search rules) (search rules) (search rules) (search rules) c.wrapping_rem.ensures
    in
    let quotient : IsCell c.wrapping_div-quotient.result = search rules in
    (quotient_below _ _ _ _ division quotient c.wrapping_div-quotient.ensures
    (c.if-is_below.ensures.0 refl)).value

pub returns-else-is_below-clause-value : goal.returns-else-is_below-clause-value
returns-else-is_below-clause-value c =
    let division : Divided c.args.self.0 c.args.divisor.0 c.wrapping_rem.result =
    divided (search rules) (search rules) (search rules) (search rules) c.wrapping_rem.ensures
    in
    let quotient : IsCell c.wrapping_div-quotient.result = search rules in
    quotient_alike _ _ _ _ division quotient c.wrapping_div-quotient.ensures
    (λ opposite. absurd (cc (c.if-is_below.ensures.1 opposite)))
