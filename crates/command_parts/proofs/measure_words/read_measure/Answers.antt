use Rattle.command_parts.proofs.WordLaws.{by_sample, by_usage, by_none}
use Rattle.command_parts.proofs.measure_words.read_measure.Goals as goal

pub returns-then-eq : goal.returns-then-eq
returns-then-eq c =
    by_sample c.args.word.now _ c.read_sample.result c.if-eq.ensures c.read_sample.ensures

pub returns-then-eq-2 : goal.returns-then-eq-2
returns-then-eq-2 c =
    by_usage c.args.word.now _ c.read_usage.result c.if-eq.ensures c.if-eq-2.ensures
    c.read_usage.ensures

pub returns-else-eq-2 : goal.returns-else-eq-2
returns-else-eq-2 c = by_none c.args.word.now _ c.if-eq.ensures c.if-eq-2.ensures
