use Rattle.std.proofs.Common.{◌∙◌, sym}
use Rattle.command_parts.proofs.FaultCountLaws.{told_other}
use Rattle.commands.specs.Used.{used_text}
use Rattle.commands.proofs.CountedLaws.{by_no_fault, by_no_sink, counted, cut_counted}
use Rattle.commands.proofs.UsedLaws.{told_used}
use Rattle.commands.proofs.counted.tell_run.Goals as goal

pub returns-in-Some-clause-tells : goal.returns-in-Some-clause-tells
returns-in-Some-clause-tells g c = λ t begun runs.
    told_used t c.args.count t.steps
    (counted t begun c.args.out.now (used_text c.args.count) c.args.steps c.args.end runs
    c.say_rest.new.out c.in-Some.status c.say_rest.result c.told.result c.in-Some.ensures
    c.say_rest.ensures c.told.ensures)

pub returns-in-Some-clause-sink : goal.returns-in-Some-clause-sink
returns-in-Some-clause-sink g c = λ e.
    absurd (by_no_sink c.args.end c.in-Some.status c.in-Some.ensures e)

pub returns-in-Some-clause-fault : goal.returns-in-Some-clause-fault
returns-in-Some-clause-fault g c = λ e.
    told_other c.in-Some.status c.say_rest.result
    (by_no_fault c.args.end c.in-Some.status c.in-Some.ensures) (sym c.told.ensures ∙ e)

pub returns-in-None-clause-tells : goal.returns-in-None-clause-tells
returns-in-None-clause-tells g c = λ t begun runs.
    told_used t c.args.count t.steps
    (cut_counted t begun c.args.out.now (used_text c.args.count) c.args.steps c.args.end runs
    c.in-None.ensures)
