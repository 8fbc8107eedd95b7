use Rattle.std.proofs.Common.{◌∙◌}
use Rattle.std.specs.String.{string_bytes}
use Rattle.command_parts.proofs.WordLaws.{options_front}
use Rattle.command_parts.proofs.options.read_options.Goals as goal

pub loop-flag-preserved : goal.loop-flag-preserved
loop-flag-preserved c =
    c.loop-flag.invariant
    ∙ options_front string_bytes c.loop-flag.options c.loop-flag.rest.now c.in-Some.others.now
    c.in-Some.flag.now c.as_str.result.now c.in-Some.ensures.cases.0 c.as_str.ensures.value
    ∙ c.in_ok-more.ensures.more
