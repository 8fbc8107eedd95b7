use Rattle.check_locals.proofs.ToldLaws.{tells}
use Rattle.check_declarations.proofs.ToldLaws.{judged_told, memory_told}
use Rattle.check_declarations.proofs.function_rules.HeadAt.open.Goals as goal

pub returns-clause-tells : goal.returns-clause-tells
returns-clause-tells c = rw c.told.ensures (tells _ _ _ c.judge_head-result.ensures.verdict)

pub returns-clause-scope : goal.returns-clause-scope
returns-clause-scope c =
    judged_told _ _ _ _ c.told.ensures c.judge_head-result.ensures.scope (λ p. p)

pub returns-clause-outer : goal.returns-clause-outer
returns-clause-outer c =
    memory_told _ _ _ _ c.told.ensures c.judge_head-result.ensures.outer (λ p. p)
