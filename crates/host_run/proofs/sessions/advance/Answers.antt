use Rattle.std.proofs.Common.{rules, w32, FitsSigned, [], inr, refl, sym, ap, subst, ◌∙◌}
use Rattle.std.proofs.lemmas.Int.{to_z-of_z}
use Rattle.pawn_outside.proofs.SaidLaws.{said_nothing}
use Rattle.host_script.specs.declared.event.End.TheVariants as end
use Rattle.amx_ops.specs.Table.{is_number}
use Rattle.amx_ops.specs.Moves.{halted}
use Rattle.amx_machine.specs.Runs.{asleep_or}
use Rattle.host_run.specs.Stands.{IsEnded}
use Rattle.host_run.specs.Reached.{placed}
use Rattle.host_run.proofs.AdvanceLaws.{ends, sleeps, nothing}
use Rattle.host_run.proofs.sessions.advance.Goals as goal

pub returns-in-Going-clause-advances : goal.returns-in-Going-clause-advances
returns-in-Going-clause-advances g c =
    rw c.in-Going.is (nothing (λ before. refl) (rw c.in-Going.is at c.requires.behind)
    (said_nothing c.args.out.now))

pub returns-in-Some-clause-advances : goal.returns-in-Some-clause-advances
returns-in-Some-clause-advances g c =
    let h = c.in-Halt in
    let s = c.args.machine.now.state in
    let at = c.args.at.now in
    let behind = rw c.in-Halt.is at c.requires.behind in
    let over =
    rw (
      to_z-of_z w32 h.code (search rules),
      to_z-of_z w32 h.pri (search rules),
      to_z-of_z w32 h.alt (search rules),
    ) at c.in-Some.ensures in
    rw c.in-Halt.is
    (ends c.in-Some.end c.over.result
    (λ before. (over s (placed s at before) (sym behind.0) (sym behind.1)).0)
    (subst (IsEnded c.in-Some.end) (sym behind.2)
    (over s (placed s at []) (sym behind.0) (sym behind.1)).1)
    c.over.ensures.answer c.over.ensures.text)

pub returns-in-None-clause-advances : goal.returns-in-None-clause-advances
returns-in-None-clause-advances g c =
    let code = c.in-Halt.code in
    let pri = c.in-Halt.pri in
    let alt = c.in-Halt.alt in
    let code_fits : FitsSigned w32 code = search rules in
    let pri_fits : FitsSigned w32 pri = search rules in
    let alt_fits : FitsSigned w32 alt = search rules in
    let s = c.args.machine.now.state in
    let at = c.args.at.now in
    let behind = rw c.in-Halt.is at c.requires.behind in
    let twelve = rw (to_z-of_z w32 code code_fits) at c.in-None.ensures in
    rw c.in-Halt.is
    (sleeps pri alt c.asleep.result behind.0 behind.1
    (λ before. ap (λ v. halted v s (placed s at before)) twelve)
    (behind.2 ∙ ap (λ v. asleep_or (is_number 12 v) v) twelve)
    (rw (to_z-of_z w32 pri pri_fits, to_z-of_z w32 alt alt_fits) at c.asleep.ensures.answer)
    (rw (to_z-of_z w32 pri pri_fits, to_z-of_z w32 alt alt_fits) at c.asleep.ensures.text))

pub returns-in-Error-clause-advances : goal.returns-in-Error-clause-advances
returns-in-Error-clause-advances g c =
    let code = c.in-Error.code in
    let fits : FitsSigned w32 code = search rules in
    rw c.in-Error.is
    (ends (end.Error code) c.over-in-Error.result (λ before. refl)
    (inr (rw c.in-Error.is at c.requires.behind))
    (rw (to_z-of_z w32 code fits) at c.over-in-Error.ensures.answer)
    (rw (to_z-of_z w32 code fits) at c.over-in-Error.ensures.text))
