use Rattle.std.proofs.Common.{rules, arith}
use Rattle.std.proofs.lemmas.Result.{err_from_is_err_and}
use Rattle.std.proofs.lemmas.Iterator.Adapters.{YieldsList-from_vec}
use Rattle.std.proofs.lemmas.Iterator.Consumers.{YieldsList-turn, YieldsList-end}
use Rattle.check_nodes.proofs.ThreadLaws.{thread_begins, thread_fails, thread_all}
use Rattle.check_calls.proofs.FillLaws.{taken_more}
use Rattle.check_calls.proofs.filling.fill_by.Goals as goal

pub loop-it-init : goal.loop-it-init
loop-it-init c = thread_begins _ _ _ _ _ c.in_ok-nothing.ensures

pub loop-it-preserved : goal.loop-it-preserved
loop-it-preserved c =
    let turn =
    YieldsList-turn (YieldsList-from_vec c.args.offers.items (search rules) (search rules))
    c.loop-it.yielded _ c.loop-it.yielded_by _ c.next.new.self c.in-Some.it c.in-Some.is
    c.next.ensures.steps in
    taken_more _ _ _ c.args.offers.items c.loop-it.yielded c.in-Some.it _ _ c.loop-it.invariant turn
    c.in_ok-done.ensures

pub returns-in_err-done : goal.returns-in_err-done
returns-in_err-done c =
    let p =
    err_from_is_err_and c.from_residual-in_err-done.result
    c.from_residual-in_err-done.ensures.1 in
    let turn =
    YieldsList-turn (YieldsList-from_vec c.args.offers.items (search rules) (search rules))
    c.loop-it.yielded _ c.loop-it.yielded_by _ c.next.new.self c.in-Some.it c.in-Some.is
    c.next.ensures.steps in
    rw (p.1, p.2) (thread_fails _ _ _ c.args.offers.items c.in-Some.it _ c.loop-it.invariant turn.0
    turn.1 c.in_err-done.ensures)

pub returns : goal.returns
returns c =
    let end =
    YieldsList-end (YieldsList-from_vec c.args.offers.items (search rules) (search rules))
    c.loop-it.yielded _ c.loop-it.yielded_by _ c.next.new.self c.in-None.is
    c.next.ensures.steps in
    thread_all _ _ _ _ c.loop-it.invariant (omega (arith, end.1))
