use Rattle.std.proofs.Common.{sym, ap, ◌∙◌}
use Rattle.host_run.specs.Bound.{Bound, entry_of}
use Rattle.host_run.proofs.GuestLaws.{no_entry, named_none, named_some}
use Rattle.host_run.proofs.bound.Bound.entry.Goals as goal

pub returns-in-None : goal.returns-in-None
returns-in-None c = λ script natives is all.
    sym (no_entry script is)
    ∙ ap (entry_of script)
    (named_none script natives c.args.self.now.natives c.args.number
    (ap (λ (b : Bound). b.natives) all) c.in-None.ensures)

pub returns-in-Some : goal.returns-in-Some
returns-in-Some c = λ script natives is all.
    let both =
    named_some script natives c.args.self.now.natives c.args.number
    (ap (λ (b : Bound). b.natives) all) c.in-Some.native.now c.in-Some.ensures in
    both.1 ∙ ap (entry_of script) both.0
