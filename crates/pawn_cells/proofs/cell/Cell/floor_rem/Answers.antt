use Rattle.std.proofs.Common.{rules, refl}
use Rattle.pawn_cells.proofs.DivisionLemmas.{Divided, divided, rest_alike, rest_fits, rest_leaves}
use Rattle.pawn_cells.proofs.cell.Cell.floor_rem.Goals as goal

pub overflow_add-result : goal.overflow_add-result
overflow_add-result c =
    let division : Divided c.args.self.0 c.args.divisor.0 c.wrapping_rem-rest.result =
    divided (search rules) (search rules) (search rules) (search rules) c.wrapping_rem-rest.ensures
    in
    rest_fits _ _ _ division (c.if-is_opposite.ensures.0 refl)

pub returns-then-is_opposite-clause-value : goal.returns-then-is_opposite-clause-value
returns-then-is_opposite-clause-value c =
    let division : Divided c.args.self.0 c.args.divisor.0 c.wrapping_rem-rest.result =
    divided (search rules) (search rules) (search rules) (search rules) c.wrapping_rem-rest.ensures
    in
    (rest_leaves _ _ _ division (c.if-is_opposite.ensures.0 refl)).value

pub returns-then-is_opposite-clause-sign : goal.returns-then-is_opposite-clause-sign
returns-then-is_opposite-clause-sign c =
    let division : Divided c.args.self.0 c.args.divisor.0 c.wrapping_rem-rest.result =
    divided (search rules) (search rules) (search rules) (search rules) c.wrapping_rem-rest.ensures
    in
    (rest_leaves _ _ _ division (c.if-is_opposite.ensures.0 refl)).sign

pub returns-then-is_opposite-clause-whole : goal.returns-then-is_opposite-clause-whole
returns-then-is_opposite-clause-whole c =
    let division : Divided c.args.self.0 c.args.divisor.0 c.wrapping_rem-rest.result =
    divided (search rules) (search rules) (search rules) (search rules) c.wrapping_rem-rest.ensures
    in
    (rest_leaves _ _ _ division (c.if-is_opposite.ensures.0 refl)).whole

pub returns-else-is_opposite-clause-value : goal.returns-else-is_opposite-clause-value
returns-else-is_opposite-clause-value c =
    let division : Divided c.args.self.0 c.args.divisor.0 c.wrapping_rem-rest.result =
    divided (search rules) (search rules) (search rules) (search rules) c.wrapping_rem-rest.ensures
    in
    (rest_alike _ _ _ division (λ opposite. absurd (cc (c.if-is_opposite.ensures.1 opposite)))).value

pub returns-else-is_opposite-clause-sign : goal.returns-else-is_opposite-clause-sign
returns-else-is_opposite-clause-sign c =
    let division : Divided c.args.self.0 c.args.divisor.0 c.wrapping_rem-rest.result =
    divided (search rules) (search rules) (search rules) (search rules) c.wrapping_rem-rest.ensures
    in
    (rest_alike _ _ _ division (λ opposite. absurd (cc (c.if-is_opposite.ensures.1 opposite)))).sign

pub returns-else-is_opposite-clause-whole : goal.returns-else-is_opposite-clause-whole
returns-else-is_opposite-clause-whole c =
    let division : Divided c.args.self.0 c.args.divisor.0 c.wrapping_rem-rest.result =
    divided (search rules) (search rules) (search rules) (search rules) c.wrapping_rem-rest.ensures
    in
    (rest_alike _ _ _ division (λ opposite. absurd (cc (c.if-is_opposite.ensures.1 opposite)))).whole
