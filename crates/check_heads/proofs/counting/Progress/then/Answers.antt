use Rattle.std.proofs.Common.{◌≡◌, List, Result, subst}
use Rattle.pawn_tree.specs.declared.name.At.{At}
use Rattle.names_rules.specs.Verdict.{Stands, Verdict}
use Rattle.check_nodes.specs.declared.fault.PartFault.{PartFault}
use Rattle.check_nodes.specs.PartAnswers.{PartAnswers}
use Rattle.check_heads.proofs.FoldLaws.{stands_behind}
use Rattle.check_heads.specs.Counting.{warned_behind}
use Rattle.check_heads.proofs.EnumLaws.{warned_joins}
use Rattle.check_heads.proofs.counting.Progress.then.Goals as goal

pub returns-in_ok-append-in-Ok : goal.returns-in_ok-append-in-Ok
returns-in_ok-append-in-Ok c = λ (v : Verdict (List At)) h.
    let P : Result (List At) PartFault → Type 0 = λ more. PartAnswers (λ warned. warned) v more in
    let stands : v ≡ Stands c.in-Ok.it = subst P c.in-Ok.is h in
    stands_behind warned_behind warned_joins c.args.self.fell c.args.self.warned c.in-Ok.it _ v
    stands c.in_ok-append-in-Ok.ensures.ok
