use Rattle.std.proofs.Common.{ap, ◌∙◌}
use Rattle.host_run.specs.Bound.{Bound}
use Rattle.host_run.proofs.GuestLaws.{named_none, named_some}
use Rattle.host_run.proofs.bound.Bound.name.Goals as goal

pub returns-in-None : goal.returns-in-None
returns-in-None c = λ script natives all.
    named_none script natives c.args.self.now.natives c.args.number
    (ap (λ (b : Bound). b.natives) all) c.in-None.ensures

pub returns-in-Some : goal.returns-in-Some
returns-in-Some c = λ script natives all.
    c.as_slice.ensures
    ∙ (named_some script natives c.args.self.now.natives c.args.number
    (ap (λ (b : Bound). b.natives) all) c.in-Some.native.now c.in-Some.ensures).0
