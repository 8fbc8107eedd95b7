use Rattle.std.proofs.Common.{◌∙◌}
use Rattle.std.proofs.lemmas.Result.{err_from_is_err_and}
use Rattle.check_statements.proofs.QuietLaws.{first_of_four, second_of_four, third_of_four}
use Rattle.check_statements.proofs.QuietLaws.{fourth_of_four, all_of_four, fails_by}
use Rattle.check_statements.proofs.loops.for_told.Goals as goal

pub returns-in_default : goal.returns-in_default
returns-in_default c = first_of_four _ _ _ _ _ _ _ _ _ c.in_default.is

pub returns-in_default-c : goal.returns-in_default-c
returns-in_default-c c = second_of_four _ _ _ _ _ _ _ _ _ c.in_default-c.is

pub returns-in_default-step : goal.returns-in_default-step
returns-in_default-step c = third_of_four _ _ _ _ _ _ _ _ _ c.in_default-step.is

pub returns-in_default-s : goal.returns-in_default-s
returns-in_default-s c = fourth_of_four _ _ _ _ _ _ _ _ _ c.in_default-s.is

pub returns : goal.returns
returns c =
    all_of_four _ _ _ _ _ _ _ _ _ _ _ _ _ c.in-Some.is c.in-Some-c.is c.in-Some-step.is
    c.in-Some-s.is ∙ c.in_ok-for_by.ensures

pub returns-in_err-for_by : goal.returns-in_err-for_by
returns-in_err-for_by c =
    let p = err_from_is_err_and c.from_residual.result c.from_residual.ensures.1 in
    rw (p.1, p.2) (fails_by _ _ _ (all_of_four _ _ _ _ _ _ _ _ _ _ _ _ _ c.in-Some.is c.in-Some-c.is
    c.in-Some-step.is c.in-Some-s.is) c.in_err-for_by.ensures)
