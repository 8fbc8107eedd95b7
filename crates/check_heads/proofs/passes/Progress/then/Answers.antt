use Rattle.std.proofs.Common.{◌≡◌, Result, subst}
use Rattle.names_rules.specs.Verdict.{Stands, Verdict}
use Rattle.types_rules.specs.Params as spec
use Rattle.check_nodes.specs.declared.fault.PartFault.{PartFault}
use Rattle.check_nodes.specs.PartAnswers.{PartAnswers}
use Rattle.check_heads.specs.declared.headed.Headed.{Headed}
use Rattle.check_heads.specs.HeadedView.{headed_view}
use Rattle.check_heads.specs.ParamParts.{headed_behind}
use Rattle.check_heads.proofs.FoldLaws.{stands_behind}
use Rattle.check_heads.proofs.ParamLaws.{headed_joins}
use Rattle.check_heads.proofs.passes.Progress.then.Goals as goal

pub returns-in_ok-then-in-Ok : goal.returns-in_ok-then-in-Ok
returns-in_ok-then-in-Ok c = λ (v : Verdict spec.Headed) h.
    let P : Result Headed PartFault → Type 0 = λ next. PartAnswers headed_view v next in
    let stands : v ≡ Stands (headed_view c.in-Ok.it) = subst P c.in-Ok.is h in
    stands_behind headed_behind headed_joins c.args.self.fell (headed_view c.args.self.done)
    (headed_view c.in-Ok.it) (headed_view c.in_ok-then-in-Ok.field-0) v stands
    c.in_ok-then-in-Ok.ensures
