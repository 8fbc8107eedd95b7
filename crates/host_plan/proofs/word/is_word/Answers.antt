use Rattle.host_plan.proofs.SideLaws.{some_bytes, word_test}
use Rattle.host_plan.proofs.word.is_word.Goals as goal

pub returns-then-not-is_empty : goal.returns-then-not-is_empty
returns-then-not-is_empty c =
    word_test c.args.bytes.now c.are_graphic.result
    (some_bytes c.args.bytes.now c.if-not-is_empty.ensures) c.are_graphic.ensures
