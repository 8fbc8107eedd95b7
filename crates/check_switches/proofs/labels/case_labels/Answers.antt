use Rattle.std.proofs.Common.{rules, arith, ap, sym, ◌∙◌}
use Rattle.std.proofs.lemmas.Result.{err_from_is_err_and}
use Rattle.std.proofs.lemmas.Iterator.Adapters.{YieldsList-from_vec}
use Rattle.std.proofs.lemmas.Iterator.Consumers.{YieldsList-turn, YieldsList-end}
use Rattle.names_rules.specs.Verdict.{Stands}
use Rattle.check_switches.proofs.TakenLaws.{taken_begins, yielded_more, taken_fails, taken_all}
use Rattle.check_switches.proofs.labels.case_labels.Goals as goal

pub loop-it-init : goal.loop-it-init
loop-it-init c = rw (c.new.ensures, c.new-2.ensures) (taken_begins _ _ _ _ _ _ _)

pub loop-it-preserved : goal.loop-it-preserved
loop-it-preserved c =
    let turn =
    YieldsList-turn (YieldsList-from_vec c.args.ends.items (search rules) (search rules))
    c.loop-it.yielded _ c.loop-it.yielded_by _ c.next.new.self c.in-Some.it c.in-Some.is
    c.next.ensures.steps in
    yielded_more _ _ _ _ _ _ c.args.ends.items c.loop-it.yielded c.in-Some.it _ _ _
    c.loop-it.invariant turn c.in_ok-label.ensures
    (ap (λ v. Stands v) c.in_ok-done.ensures)

pub returns-in_err-label : goal.returns-in_err-label
returns-in_err-label c =
    let p = err_from_is_err_and c.from_residual.result c.from_residual.ensures.1 in
    let turn =
    YieldsList-turn (YieldsList-from_vec c.args.ends.items (search rules) (search rules))
    c.loop-it.yielded _ c.loop-it.yielded_by _ c.next.new.self c.in-Some.it c.in-Some.is
    c.next.ensures.steps in
    rw (p.1, p.2) (taken_fails _ _ _ _ _ _ c.args.ends.items _ c.in-Some.it _ _ c.loop-it.invariant
    turn.0 turn.1 c.in_err-label.ensures)

pub returns : goal.returns
returns c =
    let end =
    YieldsList-end (YieldsList-from_vec c.args.ends.items (search rules) (search rules))
    c.loop-it.yielded _ c.loop-it.yielded_by _ c.next.new.self c.in-None.is
    c.next.ensures.steps in
    taken_all _ _ _ _ _ _ _ _ _ c.loop-it.invariant (omega (arith, end.1))
