use Rattle.std.proofs.Common.{ap}
use Rattle.types_rules.specs.Scope.{Scope}
use Rattle.check_locals.proofs.BackLaws.{vars_back}
use Rattle.check_locals.proofs.judged_variables.judge_vars.Goals as goal

pub returns-clause-behind : goal.returns-clause-behind
returns-clause-behind c =
    let back =
    vars_back _ _ _ _ c.args.point.now c.judge_behind.new.point c.forget.new.self.scopes _
    c.in_ok-it.ensures.behind c.forget.ensures.scopes in
    ap (λ (scope : Scope). record {
      scope = scope;
      objects = c.args.point.now.objects;
      slots = c.args.point.now.slots;
    }) back
