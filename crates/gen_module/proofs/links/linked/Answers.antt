use Rattle.std.proofs.Common.{◌∙◌}
use Rattle.gen_module.proofs.LinkLaws.{waits_are_in, linked_done}
use Rattle.gen_module.proofs.links.linked.Goals as goal

pub led-requires : goal.led-requires
led-requires c =
    waits_are_in c.args.b.now c.requires.0 c.in_ok-code.code c.waits.result.now c.requires.1
    (c.in_ok-code.ensures ∙ c.code.ensures) c.waits.ensures

pub returns : goal.returns
returns c = λ items entry is finds.
    linked_done c.args.b.now items entry c.in_ok-code.code c.waits.result.now c.in_ok-all.all is
    (c.in_ok-code.ensures ∙ c.code.ensures) c.waits.ensures
    (c.in_ok-all.ensures entry finds)
