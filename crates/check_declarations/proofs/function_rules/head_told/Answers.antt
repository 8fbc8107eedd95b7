use Rattle.std.proofs.Common.{refl}
use Rattle.check_locals.proofs.ToldLaws.{tells}
use Rattle.check_declarations.proofs.PlaceLaws.{place_same}
use Rattle.check_declarations.proofs.ToldLaws.{memory_told}
use Rattle.check_declarations.proofs.function_rules.head_told.Goals as goal

pub returns-clause-tells : goal.returns-clause-tells
returns-clause-tells c = rw c.told.ensures (tells _ _ _ c.head_rule-result.ensures.verdict)

pub returns-clause-behind : goal.returns-clause-behind
returns-clause-behind c =
    memory_told _ _ _ _ c.told.ensures c.head_rule-result.ensures.scope
    (λ e. place_same _ _ e refl refl)
