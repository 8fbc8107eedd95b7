use Rattle.std.proofs.Common.{rules, arith, ap, sym, ◌∙◌}
use Rattle.std.proofs.lemmas.Result.{err_from_is_err_and}
use Rattle.std.proofs.lemmas.Iterator.Adapters.{YieldsList-from_vec}
use Rattle.std.proofs.lemmas.Iterator.Consumers.{YieldsList-turn, YieldsList-end}
use Rattle.names_rules.specs.Verdict.{Stands}
use Rattle.check_switches.proofs.TakenLaws.{taken_begins, yielded_more, taken_fails, taken_all}
use Rattle.check_switches.proofs.switches.cased.Goals as goal

pub loop-part-preserved : goal.loop-part-preserved
loop-part-preserved c =
    let turn =
    YieldsList-turn (YieldsList-from_vec c.args.parts.items (search rules) (search rules))
    c.loop-part.yielded _ c.loop-part.yielded_by _ c.next.new.self c.in-Some.part
    c.in-Some.is c.next.ensures.steps in
    yielded_more _ _ _ _ _ _ c.args.parts.items c.loop-part.yielded c.in-Some.part _ _ _
    c.loop-part.invariant turn c.in_ok-it.ensures
    (ap (λ v. Stands v) c.in_ok-done.ensures)

pub returns-in_err-it : goal.returns-in_err-it
returns-in_err-it c =
    let p = err_from_is_err_and c.from_residual.result c.from_residual.ensures.1 in
    let turn =
    YieldsList-turn (YieldsList-from_vec c.args.parts.items (search rules) (search rules))
    c.loop-part.yielded _ c.loop-part.yielded_by _ c.next.new.self c.in-Some.part
    c.in-Some.is c.next.ensures.steps in
    rw (p.1, p.2) (taken_fails _ _ _ _ _ _ c.args.parts.items _ c.in-Some.part _ _
    c.loop-part.invariant turn.0 turn.1 c.in_err-it.ensures)

pub returns : goal.returns
returns c =
    let end =
    YieldsList-end (YieldsList-from_vec c.args.parts.items (search rules) (search rules))
    c.loop-part.yielded _ c.loop-part.yielded_by _ c.next.new.self c.in-None.is
    c.next.ensures.steps in
    taken_all _ _ _ _ _ _ _ _ _ c.loop-part.invariant (omega (arith, end.1))
