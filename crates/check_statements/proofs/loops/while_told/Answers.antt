use Rattle.std.proofs.Common.{◌∙◌}
use Rattle.std.proofs.lemmas.Result.{err_from_is_err_and}
use Rattle.check_statements.proofs.QuietLaws.{first_of_two, second_of_two, all_of_two, fails_by}
use Rattle.check_statements.proofs.loops.while_told.Goals as goal

pub returns-in_default : goal.returns-in_default
returns-in_default c = second_of_two _ _ _ _ _ c.in_default.is

pub returns-in_default-c : goal.returns-in_default-c
returns-in_default-c c = first_of_two _ _ _ _ _ c.in_default-c.is

pub returns : goal.returns
returns c = all_of_two _ _ _ _ _ _ _ c.in-Some-c.is c.in-Some.is ∙ c.in_ok-while_by.ensures

pub returns-in_err-while_by : goal.returns-in_err-while_by
returns-in_err-while_by c =
    let p = err_from_is_err_and c.from_residual.result c.from_residual.ensures.1 in
    rw (p.1, p.2) (fails_by _ _ _ (all_of_two _ _ _ _ _ _ _ c.in-Some-c.is c.in-Some.is)
    c.in_err-while_by.ensures)
