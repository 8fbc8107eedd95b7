use Rattle.command_parts.proofs.WordLaws.{option_steps, option_sleeps, option_entry, option_none}
use Rattle.command_parts.proofs.options.Options.with.Goals as goal

pub returns-then-eq : goal.returns-then-eq
returns-then-eq c =
    option_steps c.args.flag.now c.args.value.now c.args.self c.with_steps.result c.if-eq.ensures
    c.with_steps.ensures

pub returns-then-eq-2 : goal.returns-then-eq-2
returns-then-eq-2 c =
    option_sleeps c.args.flag.now c.args.value.now c.args.self c.with_sleeps.result c.if-eq.ensures
    c.if-eq-2.ensures c.with_sleeps.ensures

pub returns-then-eq-3 : goal.returns-then-eq-3
returns-then-eq-3 c =
    option_entry c.args.flag.now c.args.value.now c.args.self c.with_entry.result c.if-eq.ensures
    c.if-eq-2.ensures c.if-eq-3.ensures c.with_entry.ensures

pub returns-else-eq-3 : goal.returns-else-eq-3
returns-else-eq-3 c =
    option_none c.args.flag.now c.args.value.now c.args.self c.if-eq.ensures c.if-eq-2.ensures
    c.if-eq-3.ensures
