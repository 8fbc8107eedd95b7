use Rattle.commands.specs.Counted.{counts_text}
use Rattle.commands.proofs.CountedLaws.{counted, cut_counted}
use Rattle.commands.proofs.counted.tell_counted.Goals as goal

pub returns-in-Some : goal.returns-in-Some
returns-in-Some g c = λ t begun runs.
    counted t begun c.args.out.now (counts_text c.args.cells) c.args.steps c.args.end runs
    c.say_counted.new.out c.in-Some.status c.say_counted.result c.told.result c.in-Some.ensures
    c.say_counted.ensures c.told.ensures

pub returns-in-None : goal.returns-in-None
returns-in-None g c = λ t begun runs.
    cut_counted t begun c.args.out.now (counts_text c.args.cells) c.args.steps c.args.end runs
    c.in-None.ensures
