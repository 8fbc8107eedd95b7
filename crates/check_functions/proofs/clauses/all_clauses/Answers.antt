use Rattle.check_functions.proofs.BodyLaws.{clauses_found}
use Rattle.check_functions.proofs.clauses.all_clauses.Goals as goal

pub returns : goal.returns
returns c =
    clauses_found c.in_ok-all.all.places c.in_ok-all.all.clauses _ _ c.judge.result
    c.in_ok-all.ensures.places c.in_ok-all.ensures.clauses c.judge.ensures
