use Rattle.std.proofs.Common.{◌≡◌, ◌∙◌, w32, FitsSigned, arith, rules}
use Rattle.std.proofs.lemmas.Int.{to_z-of_z}
use Rattle.pawn_cells.specs.Cells.{sub}
use Rattle.check_expressions.specs.GoingOn.{step_in}
use Rattle.check_expressions.proofs.GoingOnLaws.{step_between}
use Rattle.check_expressions.proofs.filling.last_step.Goals as goal

pub returns : goal.returns
returns c =
    let last : FitsSigned w32 c.last_value.result = search rules in
    let before : FitsSigned w32 c.value_before.result = search rules in
    let fits : FitsSigned w32 c.difference.result = search rules in
    let is : c.difference.result ≡ sub c.last_value.result c.value_before.result =
    rw (to_z-of_z w32 c.last_value.result last, to_z-of_z w32 c.value_before.result before)
    at c.difference.ensures in
    let step : sub c.last_value.result c.value_before.result ≡ step_in c.args.values.now =
    rw (c.last_value.ensures, c.value_before.ensures)
    (step_between c.args.values.now (omega arith)) in
    rw (to_z-of_z w32 c.difference.result fits) (is ∙ step)
