use Rattle.std.proofs.Common.{rules, refl, arith}
use Rattle.std.proofs.lemmas.Iterator.Adapters.{YieldsList-from_vec}
use Rattle.std.proofs.lemmas.Iterator.Consumers.{YieldsList-turn, YieldsList-end}
use Rattle.check_calls.proofs.MadeLaws.{none_gathered, more_gathered, all_gathered}
use Rattle.check_calls.proofs.calls.made_in.Goals as goal

pub loop-it-init : goal.loop-it-init
loop-it-init c = (
  none_gathered _ _ _ _ (rw c.nothing-made.ensures.0 refl),
  none_gathered _ _ _ _ c.nothing-made.ensures.1,
)

pub loop-it-preserved : goal.loop-it-preserved
loop-it-preserved c =
    let turn =
    YieldsList-turn (YieldsList-from_vec c.args.offers.items (search rules) (search rules))
    c.loop-it.yielded _ c.loop-it.yielded_by _ c.next.new.self c.in-Some.it c.in-Some.is
    c.next.ensures.steps in (
      more_gathered _ _ c.args.offers.items c.loop-it.yielded c.in-Some.it _ _ c.loop-it.invariant.0
          turn c.in_ok-made.ensures.literals,
      more_gathered _ _ c.args.offers.items c.loop-it.yielded c.in-Some.it _ _ c.loop-it.invariant.1
          turn c.in_ok-made.ensures.warned,
    )

pub returns : goal.returns
returns c =
    let end =
    YieldsList-end (YieldsList-from_vec c.args.offers.items (search rules) (search rules))
    c.loop-it.yielded _ c.loop-it.yielded_by _ c.next.new.self c.in-None.is
    c.next.ensures.steps in
    record {
      literals = all_gathered _ _ _ c.loop-it.invariant.0 (omega (arith, end.1));
      warned = all_gathered _ _ _ c.loop-it.invariant.1 (omega (arith, end.1));
    }
